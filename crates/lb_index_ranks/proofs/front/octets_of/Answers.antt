use Rattle.std.proofs.Common.{◌≡◌, ◌++◌, ◌-◌, ◌+◌, ℕ, List, length, take, drop, replicate, set, min, [], ◌∷◌, ap, sym, ◌∙◌, arith, rules}
use Rattle.std.proofs.lemmas.List.{append_assoc}
use Rattle.lb_index_ranks.specs.Front.{padded}
use Rattle.lb_index_ranks.proofs.Packing.{laid, least_of}
use Rattle.lb_index_ranks.proofs.Pieces.{put_two, take_two, two_least}
use Rattle.lb_index_ranks.proofs.front.octets_of.Goals as goal

pub returns : goal.returns
returns c =
    let head = c.args.head.now in
    let tail = c.args.tail.now in
    let key = head ++ tail in
    let m : ℕ = c.min.result in
    let first = c.split_at.result.0.now in
    let second = c.split_at-2.result.0.now in
    let first_is : first ≡ take m head = search rules in
    let first_len : length first ≡ m = search rules in
    let k : ℕ = length second in
    let second_is : second ≡ take k tail = search rules in
    let one : m ≡ min (length head) 23 = search rules in
    let two : k ≡ min (length tail) (23 - m) = search rules in
    let least = least_of (length key) 23 (m + k) (two_least 23 head tail m k one two) in
    let behind : 0 + length first ≡ length first = omega arith in
    let over : c.put_at.new.octets ≡ first ++ drop (length first) (replicate 24 0) = c.put_at.ensures ∙ ap (λ (n : ℕ). first ++ drop n (replicate 24 0)) behind in
    let laid_over : c.put_at-2.new.octets ≡ take (m + k) key ++ drop (m + k) (replicate 24 0) =
    c.put_at-2.ensures
    ∙ put_two first second (replicate 24 0) c.put_at.new.octets over
    ∙ ap (λ (n : ℕ). first ++ (second ++ drop (n + k) (replicate 24 0))) first_len
    ∙ sym (append_assoc first second (drop (m + k) (replicate 24 0)))
    ∙ ap (λ (xs : List ℕ). xs ++ second ++ drop (m + k) (replicate 24 0)) first_is
    ∙ ap (λ (xs : List ℕ). take m head ++ xs ++ drop (m + k) (replicate 24 0)) second_is
    ∙ ap (λ (xs : List ℕ). xs ++ drop (m + k) (replicate 24 0)) (take_two 23 head tail m k one two) in
    ap (λ (xs : List ℕ). set xs 23 c.count_of.result) laid_over ∙ laid 23 (m + k) c.count_of.result key least.0 least.1 least.2 ∙ ap (λ (t : ℕ). padded 23 key ++ t ∷ []) c.count_of.ensures
