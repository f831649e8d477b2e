-- Options of a server, one after another.
use Rattle.std.proofs.Common.{◌≡◌, ℕ, ◌≤◌, ◌==◌, Bool, true, false, if◌then◌else◌, List, [], ◌∷◌, ◌++◌, map, codes, append_assoc, append-nil, refl, sym, ap, subst, ◌∙◌, arith, inl, inr}
use Rattle.std.specs.declared.num.NonZeroU8.{NonZeroU8}
use Rattle.std.proofs.Math.Bridge.{le_prop}
use Rattle.std.proofs.lemmas.Bool.{cases_Bool}
use Rattle.std.proofs.lemmas.Grind.{common_steps}
use Rattle.lb_servers.specs.declared.pool.PoolName.{PoolName}
use Rattle.lb_servers.specs.declared.spec.ServerSpec.{ServerSpec}
use Rattle.lb_step.specs.declared.check.CheckSpec.{CheckSpec}
use Rattle.lb_command.specs.Line.{Left, begins_word, left_of}
use Rattle.lb_command.specs.Grammar.{Choice, all_chosen, choice, chosen, options, pool}
use Rattle.lb_command.specs.Commands.{Stated, check_of, nothing_stated, spec_of}
use Rattle.lb_command.specs.Values.{one}
use Rattle.lb_typed.specs.Options.{choices_of, fall_choice, lanes_choice, order_choice, pool_choices, resolve_choice, rise_choice}
use Rattle.lb_typed.specs.Pieces.{Follows, Spells}
use Rattle.lb_typed.proofs.Lexed as lexed

pub no_option : Follows (options []) []
no_option total rest ends = (ends, refl)

pub one_option : (c : Choice) (b : List ℕ) → Spells (choice c) b → Follows (options (c ∷ [])) (32 ∷ b)
one_option c b spells total rest ends =
    (refl, subst (λ (left : Left). options (c ∷ []) left (left_of total rest)) (sym (lexed.past_space total (b ++ rest))) (left_of total rest, spells total rest ends, refl))

joined : (xs ys : List Choice) (l m r : Left) → options xs l m → options ys m r → options (xs ++ ys) l r
joined [] ys l m r first second = subst (λ (k : Left). options ys k r) (sym first) second
joined (x ∷ xs) ys l m r first second = (first.0, first.1, joined xs ys first.0 m r first.2 second)

pub both : (xs ys : List Choice) (a b : List ℕ) → Follows (options xs) a → Follows (options ys) b → Follows (options (xs ++ ys)) (a ++ b)
both xs ys a b first second total rest ends =
    let after = second total rest ends in
    let before = first total (b ++ rest) after.0 in (
      subst (λ (line : List ℕ). begins_word line ≡ false) (sym (append_assoc a b rest)) before.0,
      joined xs ys (left_of total ((a ++ b) ++ rest)) (left_of total (b ++ rest)) (left_of total rest)
          (subst (λ (line : List ℕ). options xs (left_of total line) (left_of total (b ++ rest))) (sym (append_assoc a b rest)) before.1) after.1,
    )

-- what is stated by them
all_after : (s : Stated) (xs ys : List Choice) → all_chosen s (xs ++ ys) ≡ all_chosen (all_chosen s xs) ys
all_after s [] ys = refl
all_after s (x ∷ xs) ys = all_after (chosen s x) xs ys

one_is : (n : ℕ) → (n == 1) ≡ true → n ≡ 1
one_is n is = grind (arith, common_steps, is)

abbrev counted : (n : ℕ) → 1 ≤ n → NonZeroU8
counted n ok = record { value = n; ok = ok }

alike : (n m : ℕ) (p : 1 ≤ n) (q : 1 ≤ m) → n ≡ m → counted n p ≡ counted m q
alike n m p q e = subst (λ (k : ℕ). (r : 1 ≤ k) → counted n p ≡ counted k r) e (λ r. ap (counted n) (le_prop p r)) q

one_count : (x : NonZeroU8) → (x.value == 1) ≡ true → one ≡ x
one_count x is = alike 1 x.value _ x.ok (sym (one_is x.value is))

abbrev stated : ℕ → List PoolName → NonZeroU8 → NonZeroU8 → ℕ → Bool → Stated
stated o ps f r l must = record { order = o; pools = ps; fall = f; rise = r; lanes = l; resolve = must }

order_is : (n : ℕ) → all_chosen (stated 1 [] one one 1 false) (order_choice n) ≡ stated n [] one one 1 false
order_is n = elim (cases_Bool (n == 1)) [
  | inl e ↦ rw e (ap (λ (k : ℕ). stated k [] one one 1 false) (sym (one_is n e)))
  | inr e ↦ rw e refl
]

lanes_is : (o n : ℕ) → all_chosen (stated o [] one one 1 false) (lanes_choice n) ≡ stated o [] one one n false
lanes_is o n = elim (cases_Bool (n == 1)) [
  | inl e ↦ rw e (ap (λ (k : ℕ). stated o [] one one k false) (sym (one_is n e)))
  | inr e ↦ rw e refl
]

fall_is : (o l : ℕ) (x : NonZeroU8) → all_chosen (stated o [] one one l false) (fall_choice x) ≡ stated o [] x one l false
fall_is o l x = elim (cases_Bool (x.value == 1)) [
  | inl e ↦ rw e (ap (λ (k : NonZeroU8). stated o [] k one l false) (one_count x e))
  | inr e ↦ rw e refl
]

rise_is : (o l : ℕ) (f x : NonZeroU8) → all_chosen (stated o [] f one l false) (rise_choice x) ≡ stated o [] f x l false
rise_is o l f x = elim (cases_Bool (x.value == 1)) [
  | inl e ↦ rw e (ap (λ (k : NonZeroU8). stated o [] f k l false) (one_count x e))
  | inr e ↦ rw e refl
]

resolve_is : (o l : ℕ) (f r : NonZeroU8) (must : Bool) → all_chosen (stated o [] f r l false) (resolve_choice must) ≡ stated o [] f r l must
resolve_is o l f r true = refl
resolve_is o l f r false = refl

pools_are : (o l : ℕ) (f r : NonZeroU8) (must : Bool) (before names : List PoolName) → all_chosen (stated o before f r l must) (pool_choices names) ≡ stated o (before ++ names) f r l must
pools_are o l f r must before [] = ap (λ (ps : List PoolName). stated o ps f r l must) (sym (append-nil before))
pools_are o l f r must before (name ∷ names) =
    pools_are o l f r must (before ++ name ∷ []) names ∙ ap (λ (ps : List PoolName). stated o ps f r l must) (append_assoc before (name ∷ []) names)

pub all_are : (spec : ServerSpec) (check : CheckSpec) → all_chosen nothing_stated (choices_of spec check) ≡ stated spec.order spec.pools check.fall check.rise spec.lanes check.must_resolve
all_are spec check =
    all_after nothing_stated (order_choice spec.order) _ ∙ ap (λ (s : Stated). all_chosen s (lanes_choice spec.lanes ++ (fall_choice check.fall ++ (rise_choice check.rise ++ (resolve_choice check.must_resolve ++ pool_choices spec.pools))))) (order_is spec.order)
    ∙ all_after _ (lanes_choice spec.lanes) _ ∙ ap (λ (s : Stated). all_chosen s (fall_choice check.fall ++ (rise_choice check.rise ++ (resolve_choice check.must_resolve ++ pool_choices spec.pools)))) (lanes_is spec.order spec.lanes)
    ∙ all_after _ (fall_choice check.fall) _ ∙ ap (λ (s : Stated). all_chosen s (rise_choice check.rise ++ (resolve_choice check.must_resolve ++ pool_choices spec.pools))) (fall_is spec.order spec.lanes check.fall)
    ∙ all_after _ (rise_choice check.rise) _ ∙ ap (λ (s : Stated). all_chosen s (resolve_choice check.must_resolve ++ pool_choices spec.pools)) (rise_is spec.order spec.lanes check.fall check.rise)
    ∙ all_after _ (resolve_choice check.must_resolve) _ ∙ ap (λ (s : Stated). all_chosen s (pool_choices spec.pools)) (resolve_is spec.order spec.lanes check.fall check.rise check.must_resolve)
    ∙ pools_are spec.order spec.lanes check.fall check.rise check.must_resolve [] spec.pools
