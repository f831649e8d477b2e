-- Numbers that are not 0 are what they count.
use Rattle.std.proofs.Common.{◌≡◌, ℕ, zero, suc, ◌≤◌, Option, Some, None, MatchOption, refl, ap, subst, arith}
use Rattle.std.proofs.Math.Bridge.{le_prop}
use Rattle.std.specs.declared.num.NonZeroU8.{NonZeroU8}
use Rattle.std.specs.declared.num.NonZeroU16.{NonZeroU16}
use Rattle.lb_command.specs.Values.{non_zero, non_zero_port}

abbrev counted : (n : ℕ) → 1 ≤ n → NonZeroU8
counted n ok = record { value = n; ok = ok }

alike : (n m : ℕ) (p : 1 ≤ n) (q : 1 ≤ m) → n ≡ m → counted n p ≡ counted m q
alike n m p q e = subst (λ (k : ℕ). (r : 1 ≤ k) → counted n p ≡ counted k r) e (λ r. ap (counted n) (le_prop p r)) q

-- two that count the same are the same
pub same_number : (x y : NonZeroU8) → x.value ≡ y.value → x ≡ y
same_number x y e = alike x.value y.value x.ok y.ok e

-- the one that counts so many, where they are some
pub is_some_number : (n : ℕ) (x : NonZeroU8) → x.value ≡ n → Some x ≡ non_zero n
is_some_number zero x e =
    let some = x.ok in
    absurd (omega (arith, e, some))
is_some_number (suc n) x e = ap (λ (y : NonZeroU8). Some y) (same_number x _ e)

pub from_new : (n : ℕ) (made : Option NonZeroU8) → MatchOption made (n ≡ 0) (λ x. x.value ≡ n) → made ≡ non_zero n
from_new n None h = rw h refl
from_new n (Some x) h = is_some_number n x h

-- the same of ports
abbrev a_port : (n : ℕ) → 1 ≤ n → NonZeroU16
a_port n ok = record { value = n; ok = ok }

alike_ports : (n m : ℕ) (p : 1 ≤ n) (q : 1 ≤ m) → n ≡ m → a_port n p ≡ a_port m q
alike_ports n m p q e = subst (λ (k : ℕ). (r : 1 ≤ k) → a_port n p ≡ a_port k r) e (λ r. ap (a_port n) (le_prop p r)) q

is_some_port : (n : ℕ) (x : NonZeroU16) → x.value ≡ n → Some x ≡ non_zero_port n
is_some_port zero x e =
    let some = x.ok in
    absurd (omega (arith, e, some))
is_some_port (suc n) x e = ap (λ (y : NonZeroU16). Some y) (alike_ports x.value (suc n) x.ok _ e)

pub port_from_new : (n : ℕ) (made : Option NonZeroU16) → MatchOption made (n ≡ 0) (λ x. x.value ≡ n) → made ≡ non_zero_port n
port_from_new n None h = rw h refl
port_from_new n (Some x) h = is_some_port n x h
