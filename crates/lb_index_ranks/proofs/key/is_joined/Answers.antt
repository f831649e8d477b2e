use Rattle.std.proofs.Common.{◌≡◌, ◌++◌, List, ℕ, drop, take, length, min, ap, sym, ◌∙◌, rules, take-append-drop}
use Rattle.std.proofs.lemmas.Slice.Eq.{bytes_eq-Decides}
use Rattle.lb_index_ranks.proofs.Packing.{drop_least}
use Rattle.lb_index_ranks.proofs.Pieces.{halves, take_least}
use Rattle.lb_index_ranks.proofs.key.is_joined.Goals as goal

pub returns-then-eq : goal.returns-then-eq
returns-then-eq c =
    let octets = c.args.octets.now in
    let first = c.args.first.now in
    let second = c.args.second.now in
    let least : c.min.result ≡ min (length octets) (length first) = search rules in
    let front : c.split_at.result.0.now ≡ take (length first) octets = c.split_at.ensures.front ∙ take_least (length first) c.min.result octets least in
    let back : c.split_at.result.1.now ≡ drop (length first) octets = c.split_at.ensures.back ∙ drop_least (length first) c.min.result octets least in
    let fronts = bytes_eq-Decides c.split_at.result.0.now first in
    let backs = bytes_eq-Decides c.split_at.result.1.now second in (
      λ yes.
          let one : take (length first) octets ≡ first = sym front ∙ fronts.0 (sym c.eq.ensures ∙ c.if-eq.true) in
          let two : drop (length first) octets ≡ second = sym back ∙ backs.0 (sym c.eq-then-eq.ensures ∙ yes) in
          sym (take-append-drop (length first) octets) ∙ ap (λ (xs : List ℕ). xs ++ drop (length first) octets) one ∙ ap (λ (xs : List ℕ). first ++ xs) two,
      λ same. c.eq-then-eq.ensures ∙ backs.1 (back ∙ (halves octets first second same).1),
    )

pub returns-else-eq : goal.returns-else-eq
returns-else-eq c =
    let octets = c.args.octets.now in
    let first = c.args.first.now in
    let second = c.args.second.now in
    let least : c.min.result ≡ min (length octets) (length first) = search rules in
    let front : c.split_at.result.0.now ≡ take (length first) octets = c.split_at.ensures.front ∙ take_least (length first) c.min.result octets least in
    let fronts = bytes_eq-Decides c.split_at.result.0.now first in (
      λ yes. absurd (cc (yes, c.if-eq.false)),
      λ same. c.eq.ensures ∙ fronts.1 (front ∙ (halves octets first second same).0),
    )
