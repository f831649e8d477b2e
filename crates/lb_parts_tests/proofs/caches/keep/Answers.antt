use Rattle.std.proofs.Common.{◌≡◌, ◌==◌, ℕ, true, [], ◌∷◌, List, Some, inl, inr, ◌∙◌, arith, refl, sym, ap}
use Rattle.std.proofs.lemmas.Bool.{cases_Bool, eqb-true}
use Rattle.lb_wire.specs.Message.{Message}
use Rattle.lb_wire.specs.declared.ids.CacheId.{CacheId}
use Rattle.lb_cache.specs.declared.cached.AttachedCache.{AttachedCache}
use Rattle.lb_cache.specs.Caches.{cache_with, has_id}
use Rattle.lb_parts_tests.proofs.caches.keep.Goals as goal

-- caches with the same number have one number
same_id : (a b : CacheId) → (a.0 == b.0) ≡ true → a ≡ b
same_id a b is = ap (λ (n : ℕ). record { 0 = n }) (eqb-true a.0 b.0 is)

-- a cache that is found by a number has it
found_id : (id : CacheId) (caches : List AttachedCache) (cache : AttachedCache) → cache_with id caches ≡ Some cache → cache.id ≡ id
found_id id [] cache found = absurd (cc)
found_id id (c ∷ caches) cache found = elim (cases_Bool (has_id id c)) [
  | inl has ↦
      let here : Some c ≡ Some cache = rw has at found in
      let same : c ≡ cache = cc in
      ap (λ (a : AttachedCache). a.id) (sym same) ∙ same_id c.id id has
  | inr other ↦ found_id id caches cache (rw other at found)
]

pub keep-requires-clause-attached : goal.keep-requires-clause-attached
keep-requires-clause-attached c =
    let found = sym c.with_id.ensures ∙ c.in_ok-cache.was in
    ap (λ (id : CacheId). cache_with id c.args.caches.now.caches) (found_id (record { 0 = c.args.id }) c.args.caches.now.caches c.in_ok-cache.cache found) ∙ found

-- the message that the reply's octets lay
abbrev message : Message
message = record {
  header = record { id = 7; flags = record { 0 = 32768 }; questions = 1; answers = 0; authorities = 0; additionals = 0 };
  name = (101 ∷ 120 ∷ 97 ∷ 109 ∷ 112 ∷ 108 ∷ 101 ∷ []) ∷ (99 ∷ 111 ∷ 109 ∷ []) ∷ [];
  qtype = record { 0 = 1 };
  qclass = record { 0 = 1 };
  records = [];
  rest = [];
}

pub keep-requires-clause-keepable : goal.keep-requires-clause-keepable
keep-requires-clause-keepable c = (
  message,
  record {
    header = record { id = omega arith; flags = omega arith; questions = omega arith; answers = omega arith; authorities = omega arith; additionals = omega arith };
    questions = refl;
    name = record { each = ((omega arith, omega arith), ((omega arith, omega arith), tt)); fits = omega arith };
    qtype = omega arith;
    qclass = omega arith;
    each = tt;
    number = refl;
    parts = c.as_slice.ensures;
  },
  sym c.requires,
  tt,
)
