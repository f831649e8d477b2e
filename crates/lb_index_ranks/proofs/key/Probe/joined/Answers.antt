use Rattle.std.proofs.Common.{◌≡◌, ◌++◌, ◌-◌, List, ℕ, drop, length, min, ap, sym, subst, ◌∙◌, rules}
use Rattle.lb_index_ranks.specs.declared.front.Front.{Front}
use Rattle.lb_index_ranks.specs.Filed.{filed_at}
use Rattle.lb_index_ranks.specs.Front.{front_of_key, key_from, AreOctets, IsPacked}
use Rattle.lb_index_ranks.proofs.Packing.{key_back, packed}
use Rattle.lb_index_ranks.proofs.Pieces.{drop_front, octets_two}
use Rattle.lb_index_ranks.proofs.key.Probe.joined.Goals as goal

pub invariant_of-result : goal.invariant_of-result
invariant_of-result c =
    let head = c.args.head.now in
    let tail = c.args.tail.now in
    let key = head ++ tail in
    let octets : AreOctets key = octets_two head tail (λ i. search (rules, c.type_inv.head i)) (λ i. search (rules, c.type_inv.tail i)) in
    let one : c.min-cut.result ≡ min (length head) 23 = search rules in
    let two : c.min.result ≡ min (length tail) (23 - c.min-cut.result) = search rules in
    let rest : c.split_at.result.1.now ++ c.split_at-2.result.1.now ≡ drop 23 key =
    ap (λ (xs : List ℕ). xs ++ c.split_at-2.result.1.now) c.split_at.ensures.back
    ∙ ap (λ (xs : List ℕ). drop c.min-cut.result head ++ xs) c.split_at-2.ensures.back
    ∙ drop_front 23 head tail c.min-cut.result c.min.result one two in
    subst (λ (f : Front). IsPacked f (c.split_at.result.1.now ++ c.split_at-2.result.1.now)) (sym c.joined-front.ensures) (subst (λ (xs : List ℕ). IsPacked (front_of_key key) xs) (sym rest) (packed key octets))

pub returns : goal.returns
returns c =
    let head = c.args.head.now in
    let tail = c.args.tail.now in
    let key = head ++ tail in
    let octets : AreOctets key = octets_two head tail (λ i. search (rules, c.type_inv.head i)) (λ i. search (rules, c.type_inv.tail i)) in
    let one : c.min-cut.result ≡ min (length head) 23 = search rules in
    let two : c.min.result ≡ min (length tail) (23 - c.min-cut.result) = search rules in
    let rest : c.split_at.result.1.now ++ c.split_at-2.result.1.now ≡ drop 23 key =
    ap (λ (xs : List ℕ). xs ++ c.split_at-2.result.1.now) c.split_at.ensures.back
    ∙ ap (λ (xs : List ℕ). drop c.min-cut.result head ++ xs) c.split_at-2.ensures.back
    ∙ drop_front 23 head tail c.min-cut.result c.min.result one two in
    ap (λ (xs : List ℕ). filed_at (key_from c.joined-front.result xs) c.args.rank) rest
    ∙ ap (λ (f : Front). filed_at (key_from f (drop 23 key)) c.args.rank) c.joined-front.ensures ∙ ap (λ (xs : List ℕ). filed_at xs c.args.rank) (key_back key octets)
