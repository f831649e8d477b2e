-- Addresses as keys, and what is reserved.
use Rattle.std.proofs.Common.{◌≡◌, List, Contains, ap, inl, inr}
use Rattle.std.specs.List.{list_any}
use Rattle.std.specs.Bool.{Decides}
use Rattle.std.proofs.lemmas.Bool.{cases_Bool}
use Rattle.std.proofs.lemmas.Slice.Eq.{bytes_eq-Decides}
use Rattle.std.proofs.lemmas.List.Elements.{Contains-push}
use Rattle.std.proofs.lemmas.Map.Made.{is_member-Decides}
use Rattle.lb_wire.specs.declared.addr.Addr.{Addr}
use Rattle.lb_wire.specs.declared.addr.Addr.TheVariants.{V4, V6}
use Rattle.lb_limits.specs.Order.{same_addr}
use Rattle.lb_limits.specs.Window.{put_key}

-- the test of addresses decides whether they are equal
pub same_decides : (a b : Addr) → Decides (same_addr a b) (a ≡ b)
same_decides (V4 a) (V4 b) = (λ h. ap V4 ((bytes_eq-Decides a b).0 h), λ e. (bytes_eq-Decides a b).1 (cc))
same_decides (V4 a) (V6 b) = (λ h. absurd (cc), λ e. absurd (cc))
same_decides (V6 a) (V4 b) = (λ h. absurd (cc), λ e. absurd (cc))
same_decides (V6 a) (V6 b) = (λ h. ap V6 ((bytes_eq-Decides a b).0 h), λ e. (bytes_eq-Decides a b).1 (cc))

-- what was put is there
pub put_contains : (key : Addr) (reserved : List Addr) → Contains (put_key key reserved) key
put_contains key reserved = elim (cases_Bool (list_any (same_addr key) reserved)) [
  | inl there ↦ rw there ((is_member-Decides same_decides reserved key).0 there)
  | inr new ↦ rw new (Contains-push reserved key)
]
