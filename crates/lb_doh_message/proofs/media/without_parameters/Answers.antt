use Rattle.std.proofs.Common.{ℕ, ◌==◌, length, take, sym, ap, ◌∙◌, arith, rules, take_all}
use Rattle.std.proofs.lemmas.List.Sums.{position_or_len_is}
use Rattle.lb_doh_message.proofs.media.without_parameters.Goals as goal

pub returns-in-Some : goal.returns-in-Some
returns-in-Some c =
    let media = c.args.media.now in
    let found = position_or_len_is (λ (b : ℕ). b == 59) media c.in-Some.at 0 (search rules) (search rules) (search rules) in
    ap (λ n. take n media) (sym found)

pub returns-in-None : goal.returns-in-None
returns-in-None c =
    let media = c.args.media.now in
    let none = position_or_len_is (λ (b : ℕ). b == 59) media (length media) 0 (omega arith) (search rules) (search rules) in
    sym (ap (λ n. take n media) none ∙ take_all (length media) media (omega arith))
