use Rattle.std.proofs.Common.{◌≡◌, List, ℕ, drop, take, length, min, ap, sym, ◌∙◌, rules, Ordering, Equal}
use Rattle.std.specs.Cmp.Lexicographic.{slice_cmp}
use Rattle.std.specs.Ordering.{nat_cmp, ordering_then}
use Rattle.lb_index_ranks.proofs.Packing.{drop_least, then_other}
use Rattle.lb_index_ranks.proofs.Pieces.{order_two, take_least}
use Rattle.lb_index_ranks.proofs.key.order_to.Goals as goal

pub returns-in-Equal : goal.returns-in-Equal
returns-in-Equal c =
    let octets = c.args.octets.now in
    let first = c.args.first.now in
    let second = c.args.second.now in
    let least : c.min.result ≡ min (length octets) (length first) = search rules in
    let front : c.split_at.result.0.now ≡ take (length first) octets = c.split_at.ensures.front ∙ take_least (length first) c.min.result octets least in
    let back : c.split_at.result.1.now ≡ drop (length first) octets = c.split_at.ensures.back ∙ drop_least (length first) c.min.result octets least in
    let same : slice_cmp nat_cmp (take (length first) octets) first ≡ Equal = ap (λ (xs : List ℕ). slice_cmp nat_cmp xs first) (sym front) ∙ sym c.cmp.ensures ∙ c.in-Equal.is in
    c.cmp-in-Equal.ensures
    ∙ ap (λ (xs : List ℕ). slice_cmp nat_cmp xs second) back
    ∙ ap (λ (o : Ordering). ordering_then o (slice_cmp nat_cmp (drop (length first) octets) second)) (sym same)
    ∙ sym (order_two octets first second)

pub returns-in_default : goal.returns-in_default
returns-in_default c =
    let octets = c.args.octets.now in
    let first = c.args.first.now in
    let second = c.args.second.now in
    let least : c.min.result ≡ min (length octets) (length first) = search rules in
    let front : c.split_at.result.0.now ≡ take (length first) octets = c.split_at.ensures.front ∙ take_least (length first) c.min.result octets least in
    let order : c.cmp.result ≡ slice_cmp nat_cmp (take (length first) octets) first = c.cmp.ensures ∙ ap (λ (xs : List ℕ). slice_cmp nat_cmp xs first) front in
    order
    ∙ sym (then_other (slice_cmp nat_cmp (take (length first) octets) first) (slice_cmp nat_cmp (drop (length first) octets) second) (λ same. c.in_default.not-Equal (order ∙ same)))
    ∙ sym (order_two octets first second)
