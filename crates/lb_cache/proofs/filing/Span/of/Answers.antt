use Rattle.std.proofs.Common.{◌≡◌, ◌+◌, ◌++◌, [], ◌∷◌, List, append_assoc, ap, drop, length, rules, sym, take, ◌∙◌, ℕ}
use Rattle.lb_name.specs.Name.{labels_of}
use Rattle.lb_suffix.specs.Key.{key_of}
use Rattle.lb_cache.proofs.Filings.{one_more}
use Rattle.lb_cache.proofs.filing.Span.of.Goals as goal

pub returns-clause-high : goal.returns-clause-high
returns-clause-high c =
    let tail = c.args.tail.now in
    let end = c.args.end in
    let key : key_of (labels_of c.as_wire-2.result.now) ≡ key_of c.args.name.now = search rules in
    let behind : c.split_at.result.0.now ≡ tail ++ end ∷ [] =
    c.split_at.ensures.front ∙ ap (λ (xs : List ℕ). take (length tail + 1) (xs ++ drop (length tail) (end ∷ end ∷ end ∷ end ∷ []))) c.copy_from_slice.ensures.after ∙ one_more tail end c.requires in
    c.of-2.ensures.octets ∙ ap (λ (xs : List ℕ). key_of (labels_of c.as_wire-2.result.now) ++ xs) behind ∙ ap (λ (xs : List ℕ). xs ++ (tail ++ end ∷ [])) key ∙ sym (append_assoc (key_of c.args.name.now) tail (end ∷ []))
