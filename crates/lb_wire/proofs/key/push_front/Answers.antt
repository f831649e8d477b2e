use Rattle.std.proofs.Common.{◌≡◌, ◌+◌, ◌-◌, ◌++◌, List, ℕ, length, take, drop, ◌∙◌, ap, arith}
use Rattle.std.proofs.lemmas.List.{length-append, length-take, length-drop, take_at}
use Rattle.lb_wire.proofs.Shed.{resized}
use Rattle.lb_wire.proofs.key.push_front.Goals as goal

pub returns-clause-octets : goal.returns-clause-octets
returns-clause-octets c =
    let size_at = c.args.size_at in
    let new = c.overwrite.new.bytes in
    let front : c.as_mut_slice.result.now ≡ take size_at (drop 2 c.args.bytes.now) =
    c.as_mut_slice.ensures.value ∙ c.in_ok-extend_from_slice.ensures.items ∙ ap (λ (xs : List ℕ). xs ++ c.split_at-2.result.0.now) c.requires.empty ∙ c.split_at-2.ensures.front ∙ ap (λ (xs : List ℕ). take size_at xs) c.split_at.ensures.back in
    let size = c.to_be_bytes-size.result in
    let two : length size ≡ 2 = ap (λ (xs : List ℕ). length xs) c.to_be_bytes-size.ensures in
    let put = c.overwrite.ensures ∙ ap (λ (xs : List ℕ). (take (size_at - 2) xs ++ size) ++ drop (size_at - 2 + length size) xs) front in
    let is = put ∙ resized c.args.bytes.now size size_at two (omega arith) (omega arith) in
    let old_many = ap (λ (xs : List ℕ). length xs) front in
    let new_many = ap (λ (xs : List ℕ). length xs) is in
    let all = take size_at c.args.bytes.now ++ size in
    let many : length new ≡ c.extend_from_slice.new.self.len = omega (arith, c.requires.within, two, c.as_mut_slice.ensures.len, old_many, length-take size_at (drop 2 c.args.bytes.now), length-drop 2 c.args.bytes.now, new_many, length-drop 2 all, length-append (take size_at c.args.bytes.now) size, length-take size_at c.args.bytes.now) in
    take_at new (drop (length new) c.extend_from_slice.new.self.items) c.extend_from_slice.new.self.len many ∙ is ∙ ap (λ (xs : List ℕ). drop 2 (take size_at c.args.bytes.now ++ xs)) c.to_be_bytes-size.ensures
