-- Servers that are probed from now on.
use Rattle.std.proofs.Common.{◌≡◌, ℕ, zero, suc, ◌+◌, ◌<◌, ◌≤◌, ◌⊎◌, inl, inr, true, false, Bool, cond, Option, None, Some, List, [], ◌∷◌, ◌++◌, length, refl, sym, ap, ◌∙◌, subst, arith, append_assoc}
use Rattle.std.specs.Prelude.{◌||◌, ◌==◌, option_map, slice_get}
use Rattle.std.specs.List.{find, list_any}
use Rattle.std.proofs.lemmas.List.{append-nil, length-append}
use Rattle.std.proofs.lemmas.List.Folds.{list_any-append}
use Rattle.std.proofs.lemmas.Bool.{eq-eqb}
use Rattle.lb_loops_io.specs.Roster.{place_in}
use Rattle.lb_loops_io.specs.declared.roster.Listed.{Listed}
use Rattle.lb_loops_io.specs.declared.roster.Place.{Place}
use Rattle.lb_loops_probes.specs.Probes.{AreFresh, AreProbed, is_of, most_probed}
use Rattle.lb_loops_probes.specs.declared.watched.Watched.{Watched}
use Rattle.lb_loops_probes.proofs.Probing.{step_or}
use Rattle.lb_wire.specs.declared.ids.ServerId.{ServerId}

-- some after others
pub fresh_on : (now : ℕ) (roster : List Listed) (p xs ys : List Watched) → AreFresh now roster p xs → AreFresh now roster (p ++ xs) ys → AreFresh now roster p (xs ++ ys)
fresh_on now roster p [] ys first after = subst (λ z. AreFresh now roster z ys) (append-nil p) after
fresh_on now roster p (x ∷ xs) ys first after = (first.0, fresh_on now roster (p ++ x ∷ []) xs ys first.1 (subst (λ z. AreFresh now roster z ys) (sym (append_assoc p (x ∷ []) xs)) after))

-- a server that is listed has a place
place_found : (server : ServerId) (ls : List Listed) (i : ℕ) (l : Listed) → slice_get ls i ≡ Some l → (l.server.0 == server.0) ≡ true → place_in server ls ≡ None → ⊥
place_found server [] i l at same none = absurd (cc at)
place_found server (x ∷ xs) i l at same none = by (λ k there less. place_found server xs k l there same less) i at (x.server.0 == server.0) refl where
  rest : (b : Bool) → (x.server.0 == server.0) ≡ b → option_map (λ (y : Listed). y.place) (cond b (Some x) (find (λ (y : Listed). y.server.0 == server.0) xs)) ≡ None
  rest b e = subst (λ c. option_map (λ (y : Listed). y.place) (cond c (Some x) (find (λ (y : Listed). y.server.0 == server.0) xs)) ≡ None) e none

  true_false : true ≡ false → ⊥
  true_false e = cc e

  some_none : (q : Place) → Some q ≡ None → ⊥
  some_none q e = cc e

  head : Some x ≡ Some l → x ≡ l
  head e = cc e

  by : ((k : ℕ) → slice_get xs k ≡ Some l → place_in server xs ≡ None → ⊥) → (k : ℕ) → slice_get (x ∷ xs) k ≡ Some l → (b : Bool) → (x.server.0 == server.0) ≡ b → ⊥
  by again k here true e = some_none x.place (rest true e)
  by again zero here false e = true_false (sym same ∙ ap (λ (y : Listed). y.server.0 == server.0) (sym (head here)) ∙ e)
  by again (suc k) here false e = again k here (rest false e)

has_place : (ls : List Listed) (i : ℕ) (l : Listed) → slice_get ls i ≡ Some l → place_in l.server ls ≡ None → ⊥
has_place ls i l at none = place_found l.server ls i l at (eq-eqb l.server.0 l.server.0 refl) none

pub no_place : (ls : List Listed) (i : ℕ) (l : Listed) (server : ServerId) (place : Place) → ◌≡◌ {A = Option (ServerId × Place)} (Some (server, place)) (option_map (λ (x : Listed). (x.server, x.place)) (slice_get ls i)) → slice_get ls i ≡ Some l → place_in server ls ≡ None → ⊥
no_place ls i l server place nth at none =
    has_place ls i l at (subst (λ (s : ServerId). place_in s ls ≡ None) (same (nth ∙ ap (λ (o : Option Listed). option_map (λ (x : Listed). (x.server, x.place)) o) at)) none) where
      pair : ◌≡◌ {A = Option (ServerId × Place)} (Some (server, place)) (Some (l.server, l.place)) → ◌≡◌ {A = ServerId × Place} (server, place) (l.server, l.place)
      pair e = cc e

      same : ◌≡◌ {A = Option (ServerId × Place)} (Some (server, place)) (Some (l.server, l.place)) → server ≡ l.server
      same e = ap (λ (p : ServerId × Place). p.0) (pair e)

-- one that is probed stays so
any_on : (server : ServerId) (p q fresh : List Watched) → q ≡ p ++ fresh → list_any (is_of server) p ≡ true → list_any (is_of server) q ≡ true
any_on server p q fresh is here = ap (λ ws. list_any (is_of server) ws) is ∙ list_any-append (is_of server) p fresh ∙ ap (λ b. b || list_any (is_of server) fresh) here

-- one server more
pub probed_on : (n : ℕ) (roster : List Listed) (p q fresh : List Watched) → q ≡ p ++ fresh → AreProbed n roster p → ((l : Listed) → slice_get roster n ≡ Some l → (most_probed ≤ length q) ⊎ (list_any (is_of l.server) q ≡ true)) → AreProbed (n + 1) roster q
probed_on n roster p q fresh is before here = by before (slice_get roster n) refl where
  longer : length q ≡ length p + length fresh
  longer = ap (λ (ws : List Watched). length ws) is ∙ length-append p fresh

  last : (i : ℕ) (l : Listed) (o : Option Listed) → slice_get roster n ≡ o → (i < n → list_any (is_of l.server) q ≡ true) → (o ≡ Some l → list_any (is_of l.server) q ≡ true) → i < n + 1 → slice_get roster i ≡ Some l → list_any (is_of l.server) q ≡ true
  last i l o is_at earlier now lt at = at_end (step_or i n lt) where
    at_end : (i < n) ⊎ (i ≡ n) → list_any (is_of l.server) q ≡ true
    at_end (inl less) = earlier less
    at_end (inr same) = now (sym is_at ∙ subst (λ k. slice_get roster k ≡ Some l) same at)

  none_some : (l : Listed) → None ≡ Some l → ⊥
  none_some l e = cc e

  some_is : (l m : Listed) → Some l ≡ Some m → l ≡ m
  some_is l m e = cc e

  with : ((i : ℕ) (l : Listed) → i < n → slice_get roster i ≡ Some l → list_any (is_of l.server) p ≡ true) → (m : Listed) → slice_get roster n ≡ Some m → (most_probed ≤ length q) ⊎ (list_any (is_of m.server) q ≡ true) → AreProbed (n + 1) roster q
  with all m is_at (inl full) = inl full
  with all m is_at (inr there) = inr (λ i l lt at. last i l (Some m) is_at (λ less. any_on l.server p q fresh is (all i l less at)) (λ e. ap (λ (x : Listed). list_any (is_of x.server) q) (sym (some_is m l e)) ∙ there) lt at)

  by : AreProbed n roster p → (o : Option Listed) → slice_get roster n ≡ o → AreProbed (n + 1) roster q
  by (inl full) o is_at = inl (omega (arith, longer, full))
  by (inr all) None is_at = inr (λ i l lt at. last i l None is_at (λ less. any_on l.server p q fresh is (all i l less at)) (λ e. absurd (none_some l e)) lt at)
  by (inr all) (Some m) is_at = with all m is_at (here m is_at)
