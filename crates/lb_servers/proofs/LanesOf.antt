-- How many lanes the server with a number has, by its place in the list.
use Rattle.std.proofs.Common.{◌≡◌, ℕ, ltb, inl, inr, List, length, get_or, Option, None, Some, refl, sym, ap, ◌∙◌, arith}
use Rattle.std.specs.List.{find, position, position_or_len, slice_get}
use Rattle.std.proofs.lemmas.Bool.{cases_Bool, cond-true, cond-false, ltb-true, ltb-false}
use Rattle.std.proofs.lemmas.List.Folds.{find_at}
use Rattle.std.proofs.lemmas.Option.{slice_get-get_or, slice_get_past}
use Rattle.lb_wire.specs.declared.ids.ServerId.{ServerId}
use Rattle.lb_servers.specs.declared.server.Loaded.{Loaded}
use Rattle.lb_servers.specs.Server.{is_server, lanes_in, lanes_of}

-- if one stands there, it has what that one has
pub lanes_there : (id : ServerId) (servers : List Loaded) (at : ℕ) (l : Loaded) → position (is_server id) servers ≡ Some at → lanes_of servers id ≡ (get_or servers at l).server.lanes
lanes_there id servers at l is = elim (cases_Bool (ltb (position_or_len (is_server id) servers) (length servers))) [
  | inl within ↦
      let first : Some (position_or_len (is_server id) servers) ≡ Some at = sym (cond-true _ _ _ within) ∙ is in
      let same : position_or_len (is_server id) servers ≡ at = cc in
      let lt = ltb-true (position_or_len (is_server id) servers) (length servers) within in
      ap lanes_in (find_at (is_server id) servers ∙ slice_get-get_or servers (position_or_len (is_server id) servers) l lt ∙ ap (λ (k : ℕ). Some (get_or servers k l)) same)
  | inr past ↦ let none : None ≡ Some at = sym (cond-false _ _ _ past) ∙ is in absurd (cc)
]

-- if none stands, it has none
pub lanes_nowhere : (id : ServerId) (servers : List Loaded) → position (is_server id) servers ≡ None → lanes_of servers id ≡ 0
lanes_nowhere id servers is = elim (cases_Bool (ltb (position_or_len (is_server id) servers) (length servers))) [
  | inl within ↦ let some : Some (position_or_len (is_server id) servers) ≡ None = sym (cond-true _ _ _ within) ∙ is in absurd (cc)
  | inr past ↦ ap lanes_in (find_at (is_server id) servers ∙ slice_get_past servers (position_or_len (is_server id) servers) (ltb-false (position_or_len (is_server id) servers) (length servers) past))
]
