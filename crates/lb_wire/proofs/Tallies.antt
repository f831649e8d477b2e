-- What records come to, and others after them.
use Rattle.std.proofs.Common.{◌≡◌, ℕ, ◌≤◌, Bool, true, false, List, [], ◌∷◌, ◌++◌, length, Option, None, Some, min, filter, map, is_some, ◌&&◌, ◌||◌, if◌then◌else◌, refl, sym, ◌∙◌, ap, arith}
use Rattle.std.proofs.lemmas.List.{map-append}
use Rattle.std.proofs.lemmas.List.Elements.{filter-append}
use Rattle.lb_wire.specs.Record.{Record}
use Rattle.lb_wire.specs.Opt.{is_opt, is_other, opts, opt_of, first_opt, ttl_value, lesser, least, least_ttl}
use Rattle.lb_wire.specs.Tally.{is_two, tally_of, tally_of_one, both_of}
use Rattle.lb_wire.specs.declared.opt.Opt.{Opt}
use Rattle.lb_wire.specs.declared.tally.Tally.{Tally}

-- the lesser of three, grouped either way
lesser_assoc : (a b c : Option ℕ) → lesser (lesser a b) c ≡ lesser a (lesser b c)
lesser_assoc None b c = refl
lesser_assoc (Some a) None c = refl
lesser_assoc (Some a) (Some b) None = refl
lesser_assoc (Some a) (Some b) (Some c) = let same : min (min a b) c ≡ min a (min b c) = omega arith in ap (λ (n : ℕ). Some n) same

-- the least of two lists
least-append : (a b : List ℕ) → least (a ++ b) ≡ lesser (least a) (least b)
least-append [] b = refl
least-append (n ∷ a) b = ap (λ (m : Option ℕ). lesser (Some n) m) (least-append a b) ∙ sym (lesser_assoc (Some n) (least a) (least b))

-- the least TTL of two lists of records
least_ttl-append : (a b : List Record) → least_ttl (a ++ b) ≡ lesser (least_ttl a) (least_ttl b)
least_ttl-append a b =
    ap (λ (rs : List Record). least (map (λ r. ttl_value r.ttl) rs)) (filter-append is_other a b)
    ∙ ap (λ (ns : List ℕ). least ns) (map-append (λ (r : Record). ttl_value r.ttl) (filter is_other a) (filter is_other b))
    ∙ least-append (map (λ r. ttl_value r.ttl) (filter is_other a)) (map (λ r. ttl_value r.ttl) (filter is_other b))

-- the first of two lists of OPT records
first_opt-append : (a b : List Record) → first_opt (a ++ b) ≡ (if is_some (first_opt a) then first_opt a else first_opt b)
first_opt-append [] b = refl
first_opt-append (r ∷ a) b = refl

-- two or more of two lists
is_two-append : (a b : List Record) → is_two (a ++ b) ≡ (is_two a || is_two b || (is_some (first_opt a) && is_some (first_opt b)))
is_two-append [] [] = refl
is_two-append [] (r ∷ []) = refl
is_two-append [] (r ∷ s ∷ b) = refl
is_two-append (r ∷ []) [] = refl
is_two-append (r ∷ []) (s ∷ []) = refl
is_two-append (r ∷ []) (s ∷ t ∷ b) = refl
is_two-append (r ∷ s ∷ a) b = refl

-- records of equal tallies
same_tally : (a b : Tally) → a.opt ≡ b.opt → a.twice ≡ b.twice → a.least ≡ b.least → a ≡ b
same_tally a b o t l =
    ap (λ (x : Option Opt). record a { opt = x }) o
    ∙ ap (λ (x : Bool). record b { twice = x; least = a.least }) t
    ∙ ap (λ (x : Option ℕ). record b { least = x }) l

-- what records come to together
pub tally_of-append : (a b : List Record) → tally_of (a ++ b) ≡ both_of (tally_of a) (tally_of b)
tally_of-append a b = same_tally (tally_of (a ++ b)) (both_of (tally_of a) (tally_of b))
    (ap (λ (rs : List Record). first_opt rs) (filter-append is_opt a b) ∙ first_opt-append (opts a) (opts b))
    (ap (λ (rs : List Record). is_two rs) (filter-append is_opt a b) ∙ is_two-append (opts a) (opts b))
    (least_ttl-append a b)

-- what one record comes to, by whether it is an OPT
tally_of-record : (r : Record) (b : Bool) → is_opt r ≡ b → tally_of (r ∷ []) ≡ (if b then record { opt = Some (opt_of r); twice = false; least = None } else record { opt = None; twice = false; least = Some (ttl_value r.ttl) })
tally_of-record r true is = rw is refl
tally_of-record r false is = rw is refl

-- what one record comes to
pub tally_of-one : (r : Record) → tally_of (r ∷ []) ≡ tally_of_one r.rtype r.ttl
tally_of-one r = tally_of-record r (is_opt r) refl

-- fewer than two OPT records are one at most
pub not_two : (records : List Record) → is_two records ≡ false → length records ≤ 1
not_two [] is = omega arith
not_two (r ∷ []) is = omega arith
not_two (r ∷ s ∷ records) is = cc is

-- two OPT records are more than one
pub two_many : (records : List Record) → is_two records ≡ true → length records ≤ 1 → ⊥
two_many [] is few = cc is
two_many (r ∷ []) is few = cc is
two_many (r ∷ s ∷ records) is few = omega arith
