use Rattle.std.proofs.Common.{ℕ, not, length, drop, sym, ap, ◌∙◌, arith, rules}
use Rattle.std.proofs.lemmas.List.Sums.{position_or_len_is}
use Rattle.std.proofs.lemmas.List.{take_rest, drop_all}
use Rattle.lb_doh_message.specs.Media.{is_blank}
use Rattle.lb_doh_message.proofs.media.without_leading.Goals as goal

pub returns-in-Some : goal.returns-in-Some
returns-in-Some c =
    let octets = c.args.octets.now in
    let found = position_or_len_is (λ (b : ℕ). not (is_blank b)) octets c.in-Some.at 0 (search rules) (search rules) (search rules) in
    take_rest octets _ ∙ ap (λ n. drop n octets) (sym found)

pub returns-in-None : goal.returns-in-None
returns-in-None c =
    let octets = c.args.octets.now in
    let none = position_or_len_is (λ (b : ℕ). not (is_blank b)) octets (length octets) 0 (omega arith) (search rules) (search rules) in
    sym (ap (λ n. drop n octets) none ∙ drop_all (length octets) octets (omega arith))
