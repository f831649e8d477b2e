-- Addresses in their places.
use Rattle.std.proofs.Common.{◌≡◌, ℕ, ◌-◌, ◌≤◌, List, ◌++◌, length, replicate, take, drop, sym, ap, ◌∙◌}
use Rattle.std.proofs.lemmas.List.{take_at, drop-replicate}
use Rattle.lb_wire.specs.declared.addr.Addr.{Addr}
use Rattle.lb_chain.specs.Addrs.{IsAddrs, blank, padded}

-- addresses in front, and the other places blank
pub in_places : (front addrs : List Addr) → front ≡ addrs → 1 ≤ length addrs → length addrs ≤ 8 → IsAddrs (front ++ drop (length addrs) (replicate 8 blank)) (length addrs)
in_places front addrs is some few =
    let long : length front ≡ length addrs = ap length is in
    let rest : List Addr = drop (length addrs) (replicate 8 blank) in
    let used : take (length addrs) (front ++ rest) ≡ front = take_at front rest (length addrs) long in
    let blanks : replicate (8 - length front) blank ≡ rest = ap (λ (n : ℕ). replicate (8 - n) blank) long ∙ sym (drop-replicate (length addrs) 8 blank) in
    record {
      some = some;
      few = few;
      used = ap length used ∙ long;
      places = ap padded used ∙ ap (λ (zs : List Addr). front ++ zs) blanks;
    }
