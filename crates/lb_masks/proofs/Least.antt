-- The least of some ranks.
use Rattle.std.proofs.Common.{◌≡◌, ◌⊎◌, ℕ, ◌<◌, ◌≤◌, nat_lt, true, false, Option, None, Some, inl, inr, refl, arith}
use Rattle.std.proofs.lemmas.Bool.{cases_Bool}
use Rattle.std.proofs.lemmas.Bool.Decides.{nat_tests}
use Rattle.lb_index_ranks.specs.Least.{IsLeastFrom, lesser_of}

pub least_assoc : (a b c : Option ℕ) → lesser_of a (lesser_of b c) ≡ lesser_of (lesser_of a b) c
least_assoc None b c = refl
least_assoc (Some a) None c = refl
least_assoc (Some a) (Some b) None = elim (cases_Bool (nat_lt b a)) [ inl is ↦ rw is refl | inr is ↦ rw is refl ]
least_assoc (Some a) (Some b) (Some c) =
    elim (cases_Bool (nat_lt b a)) [
      | inl is ↦ elim (cases_Bool (nat_lt c b)) [ inl js ↦ grind (arith, nat_tests) | inr js ↦ grind (arith, nat_tests) ]
      | inr is ↦ elim (cases_Bool (nat_lt c b)) [ inl js ↦ grind (arith, nat_tests) | inr js ↦ grind (arith, nat_tests) ]
    ]

pub least_none : (a : Option ℕ) → lesser_of a None ≡ a
least_none None = refl
least_none (Some a) = refl

below_is : (a b : ℕ) → nat_lt a b ≡ true → a < b
below_is a b is = grind (arith, nat_tests)

not_below_is : (a b : ℕ) → nat_lt a b ≡ false → b ≤ a
not_below_is a b is = grind (arith, nat_tests)

-- the least of two sets is the lesser of their least
pub least_both : (P Q : ℕ → Type 0) (from : ℕ) (a b : Option ℕ) → IsLeastFrom P from a → IsLeastFrom Q from b → IsLeastFrom (λ r. P r ⊎ Q r) from (lesser_of a b)
least_both P Q from None None p q = λ r le has. elim has [ inl in_p ↦ p r le in_p | inr in_q ↦ q r le in_q ]
least_both P Q from None (Some b) p q = (q.0, inr q.1, λ r le has. elim has [ inl in_p ↦ absurd (p r le in_p) | inr in_q ↦ q.2 r le in_q ])
least_both P Q from (Some a) None p q = (p.0, inl p.1, λ r le has. elim has [ inl in_p ↦ p.2 r le in_p | inr in_q ↦ absurd (q r le in_q) ])
least_both P Q from (Some a) (Some b) p q =
    elim (cases_Bool (nat_lt b a)) [
      | inl is ↦
          let less : b < a = below_is b a is in
          rw is (q.0, inr q.1, λ r le has. elim has [ inl in_p ↦ (let over : a ≤ r = p.2 r le in_p in omega arith) | inr in_q ↦ q.2 r le in_q ])
      | inr is ↦
          let more : a ≤ b = not_below_is b a is in
          rw is (p.0, inl p.1, λ r le has. elim has [ inl in_p ↦ p.2 r le in_p | inr in_q ↦ (let over : b ≤ r = q.2 r le in_q in omega arith) ])
    ]

-- equal sets have one least rank
pub least_same : (P Q : ℕ → Type 0) (from : ℕ) (a : Option ℕ) → ((r : ℕ) → P r → Q r) → ((r : ℕ) → Q r → P r) → IsLeastFrom P from a → IsLeastFrom Q from a
least_same P Q from None to back p = λ r le has. p r le (back r has)
least_same P Q from (Some a) to back p = (p.0, to a p.1, λ r le has. p.2 r le (back r has))
