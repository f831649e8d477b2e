-- Limiters and rules that are changed in place, one after the other.
use Rattle.std.proofs.Common.{◌≡◌, ℕ, ◌+◌, ◌<◌, ◌≤◌, Bool, List, [], ◌∷◌, ◌++◌, length, get_or, set, map, take, drop, inl, inr, refl, sym, ap, ◌∙◌, arith, append_assoc, if◌then◌else◌}
use Rattle.std.specs.List.{All, AllZip}
use Rattle.std.proofs.lemmas.Bool.{cases_Bool}
use Rattle.std.proofs.lemmas.List.Elements.{All-nil, All-cons, All-head, All-tail}
use Rattle.std.proofs.lemmas.List.{drop_more, map_more, set_at, get_or_at, take_more, length-map, length-take-le}
use Rattle.lb_wire.specs.declared.ids.RuleId.{RuleId}
use Rattle.lb_limits.specs.Window.{Limits}
use Rattle.lb_chain.specs.declared.walked.Passed.{Passed}
use Rattle.lb_chain.specs.declared.numbered.Numbered.{Numbered}
use Rattle.lb_chain.specs.Chain.{HasPasses}
use Rattle.lb_chain.specs.Listed.{as_new}
use Rattle.lb_chain.proofs.Chains.{IsLike, ArePast}
use Rattle.lb_chain.specs.Counting.{has_pass, changed_limits, changed_rule, changed_rules}

-- a limiter with its number, changed where it has a pass
abbrev pub changed_at : (Limits → Limits) → List Passed → RuleId → ℕ → Limits → Limits
changed_at change passes rule at l = if has_pass passes rule at then change l else l

length-changed : (change : Limits → Limits) (passes : List Passed) (rule : RuleId) (at : ℕ) (xs : List Limits) → length (changed_limits change passes rule at xs) ≡ length xs
length-changed change passes rule at [] = refl
length-changed change passes rule at (x ∷ xs) = omega (arith, length-changed change passes rule (at + 1) xs)

changed_push : (change : Limits → Limits) (passes : List Passed) (rule : RuleId) (at n : ℕ) (xs : List Limits) (y : Limits) → n ≡ at + length xs → changed_limits change passes rule at (xs ++ y ∷ []) ≡ changed_limits change passes rule at xs ++ changed_at change passes rule n y ∷ []
changed_push change passes rule at n [] y is =
    let same : at ≡ n = omega arith in
    ap (λ (k : ℕ). changed_at change passes rule k y ∷ []) same
changed_push change passes rule at n (x ∷ xs) y is =
    let further : n ≡ (at + 1) + length xs = omega arith in
    ap (λ (ls : List Limits). changed_at change passes rule at x ∷ ls) (changed_push change passes rule (at + 1) n xs y further)

-- what stands where some are changed and the others are to come
pub still_there : {X : Type 0} (front xs ys : List X) (i : ℕ) (d : X) → i < length xs → length front ≡ i → ys ≡ front ++ drop i xs → get_or ys i d ≡ get_or xs i d
still_there front xs ys i d lt long is =
    let parts : ys ≡ front ++ get_or xs i d ∷ drop (i + 1) xs = is ∙ ap (λ zs. front ++ zs) (drop_more xs i d lt) in
    rw parts (get_or_at front (get_or xs i d) (drop (i + 1) xs) d i long)

-- one more is put in its place
pub put_next : {X : Type 0} (front xs ys : List X) (i : ℕ) (x : X) → i < length xs → length front ≡ i → ys ≡ front ++ drop i xs → set ys i x ≡ (front ++ x ∷ []) ++ drop (i + 1) xs
put_next front xs ys i x lt long is =
    let parts : ys ≡ front ++ get_or xs i x ∷ drop (i + 1) xs = is ∙ ap (λ zs. front ++ zs) (drop_more xs i x lt) in
    rw append_assoc (ap (λ zs. set zs i x) parts ∙ set_at front (get_or xs i x) (drop (i + 1) xs) x i long)

abbrev pub limits_so_far : (Limits → Limits) → List Passed → RuleId → ℕ → List Limits → List Limits
limits_so_far change passes rule i xs = changed_limits change passes rule 0 (take i xs) ++ drop i xs

front_long : (change : Limits → Limits) (passes : List Passed) (rule : RuleId) (i : ℕ) (xs : List Limits) → i ≤ length xs → length (changed_limits change passes rule 0 (take i xs)) ≡ i
front_long change passes rule i xs le = length-changed change passes rule 0 (take i xs) ∙ length-take-le i xs le

pub limits_there : (change : Limits → Limits) (passes : List Passed) (rule : RuleId) (xs ys : List Limits) (i : ℕ) (d : Limits) → i < length xs → ys ≡ limits_so_far change passes rule i xs → get_or ys i d ≡ get_or xs i d
limits_there change passes rule xs ys i d lt is = still_there (changed_limits change passes rule 0 (take i xs)) xs ys i d lt (front_long change passes rule i xs (omega arith)) is

pub limits_more : (change : Limits → Limits) (passes : List Passed) (rule : RuleId) (xs ys : List Limits) (i : ℕ) (x d : Limits) → i < length xs → ys ≡ limits_so_far change passes rule i xs → x ≡ changed_at change passes rule i (get_or xs i d) → set ys i x ≡ limits_so_far change passes rule (i + 1) xs
limits_more change passes rule xs ys i x d lt is new =
    let long : length (take i xs) ≡ i = length-take-le i xs (omega arith) in
    let number : i ≡ 0 + length (take i xs) = omega arith in
    let front : changed_limits change passes rule 0 (take (i + 1) xs) ≡ changed_limits change passes rule 0 (take i xs) ++ x ∷ [] =
    ap (changed_limits change passes rule 0) (take_more xs i d lt) ∙ changed_push change passes rule 0 i (take i xs) (get_or xs i d) number ∙ ap (λ (l : Limits). changed_limits change passes rule 0 (take i xs) ++ l ∷ []) (sym new) in
    put_next (changed_limits change passes rule 0 (take i xs)) xs ys i x lt (front_long change passes rule i xs (omega arith)) is ∙ ap (λ (ls : List Limits). ls ++ drop (i + 1) xs) (sym front)

abbrev pub rules_so_far : (Limits → Limits) → List Passed → ℕ → List Numbered → List Numbered
rules_so_far change passes i xs = changed_rules change passes (take i xs) ++ drop i xs

pub rules_long : (change : Limits → Limits) (passes : List Passed) (i : ℕ) (xs : List Numbered) → i ≤ length xs → length (changed_rules change passes (take i xs)) ≡ i
rules_long change passes i xs le = length-map (take i xs) (changed_rule change passes) ∙ length-take-le i xs le

pub rules_there : (change : Limits → Limits) (passes : List Passed) (xs ys : List Numbered) (i : ℕ) (d : Numbered) → i < length xs → ys ≡ rules_so_far change passes i xs → get_or ys i d ≡ get_or xs i d
rules_there change passes xs ys i d lt is = still_there (changed_rules change passes (take i xs)) xs ys i d lt (rules_long change passes i xs (omega arith)) is

pub rules_more : (change : Limits → Limits) (passes : List Passed) (xs ys : List Numbered) (i : ℕ) (x d : Numbered) → i < length xs → ys ≡ rules_so_far change passes i xs → x ≡ changed_rule change passes (get_or xs i d) → set ys i x ≡ rules_so_far change passes (i + 1) xs
rules_more change passes xs ys i x d lt is new =
    let front : changed_rules change passes (take (i + 1) xs) ≡ changed_rules change passes (take i xs) ++ x ∷ [] =
    map_more (changed_rule change passes) xs i d lt ∙ ap (λ (n : Numbered). changed_rules change passes (take i xs) ++ n ∷ []) (sym new) in
    put_next (changed_rules change passes (take i xs)) xs ys i x lt (rules_long change passes i xs (omega arith)) is ∙ ap (λ (ns : List Numbered). ns ++ drop (i + 1) xs) (sym front)

limits_same : (change : Limits → Limits) (rule : RuleId) (at : ℕ) (xs : List Limits) → changed_limits change [] rule at xs ≡ xs
limits_same change rule at [] = refl
limits_same change rule at (x ∷ xs) = ap (λ (ls : List Limits). x ∷ ls) (limits_same change rule (at + 1) xs)

none_changed : (change : Limits → Limits) (xs : List Numbered) → changed_rules change [] xs ≡ xs
none_changed change [] = refl
none_changed change (n ∷ xs) =
    ap (λ (ls : List Limits). record n { limits = ls } ∷ changed_rules change [] xs) (limits_same change n.id 0 n.limits) ∙ ap (λ (ns : List Numbered). n ∷ ns) (none_changed change xs)

-- without passes nothing changes
pub nothing_changed : (change : Limits → Limits) (passes : List Passed) (xs : List Numbered) → passes ≡ [] → changed_rules change passes xs ≡ xs
nothing_changed change passes xs is = ap (λ (ps : List Passed). changed_rules change ps xs) is ∙ none_changed change xs

changed_past : (change : Limits → Limits) (passes : List Passed) (rule : RuleId) (now at : ℕ) (xs : List Limits) → ((l : Limits) → (change l).moment ≤ now) → All (λ l. l.moment ≤ now) xs → All (λ l. l.moment ≤ now) (changed_limits change passes rule at xs)
changed_past change passes rule now at [] new past = All-nil (λ (l : Limits). l.moment ≤ now)
changed_past change passes rule now at (x ∷ xs) new past =
    let P : Limits → Type 0 = λ l. l.moment ≤ now in
    let here : P (changed_at change passes rule at x) = elim (cases_Bool (has_pass passes rule at)) [ inl is ↦ rw is (new x) | inr is ↦ rw is (All-head P x xs past) ] in
    All-cons P (changed_at change passes rule at x) (changed_limits change passes rule (at + 1) xs) here (changed_past change passes rule now (at + 1) xs new (All-tail P x xs past))

changed_rates : (change : Limits → Limits) (passes : List Passed) (rule : RuleId) (at : ℕ) (xs : List Limits) → ((l : Limits) → as_new (change l) ≡ as_new l) → map as_new (changed_limits change passes rule at xs) ≡ map as_new xs
changed_rates change passes rule at [] same = refl
changed_rates change passes rule at (x ∷ xs) same =
    let here : as_new (changed_at change passes rule at x) ≡ as_new x = elim (cases_Bool (has_pass passes rule at)) [ inl is ↦ rw is (same x) | inr is ↦ rw is refl ] in
    ap (λ (l : Limits). l ∷ map as_new (changed_limits change passes rule (at + 1) xs)) here ∙ ap (λ (ls : List Limits). as_new x ∷ ls) (changed_rates change passes rule (at + 1) xs same)

-- rules whose limiters change stay as they are but for those
pub changed_like : (change : Limits → Limits) (passes : List Passed) (now : ℕ) (xs : List Numbered) → ((l : Limits) → (change l).moment ≤ now) → ((l : Limits) → as_new (change l) ≡ as_new l) → All (λ n. All (λ l. l.moment ≤ now) n.limits) xs → All HasPasses (changed_rules change passes xs) → AllZip (IsLike now) xs (changed_rules change passes xs)
changed_like change passes now [] new same past are = tt
changed_like change passes now (n ∷ xs) new same past are =
    let here : IsLike now n (changed_rule change passes n) = record {
      id = refl;
      rule = refl;
      limiters = length-changed change passes n.id 0 n.limits;
      rates = changed_rates change passes n.id 0 n.limits same;
      moments = changed_past change passes n.id now 0 n.limits new (All-head (ArePast now) n xs past);
      passes = All-head HasPasses (changed_rule change passes n) (changed_rules change passes xs) are;
    } in
    (here, changed_like change passes now xs new same (All-tail (ArePast now) n xs past) (All-tail HasPasses (changed_rule change passes n) (changed_rules change passes xs) are))

-- the next limiter is changed in its place
pub limits_next : (change : Limits → Limits) (passes : List Passed) (rule : RuleId) (xs ys : List Limits) (i : ℕ) (wanted : Bool) (x y : Limits) → i < length xs → ys ≡ limits_so_far change passes rule i xs → y ≡ get_or ys i y → wanted ≡ has_pass passes rule i → x ≡ (if wanted then change y else y) → set ys i x ≡ limits_so_far change passes rule (i + 1) xs
limits_next change passes rule xs ys i wanted x y lt is own wants new =
    let old : y ≡ get_or xs i y = own ∙ limits_there change passes rule xs ys i y lt is in
    let value : x ≡ changed_at change passes rule i (get_or xs i y) =
    new ∙ ap (λ (b : Bool). if b then change y else y) wants ∙ ap (changed_at change passes rule i) old in
    limits_more change passes rule xs ys i x y lt is value

-- the next rule is changed in its place
pub rules_next : (change : Limits → Limits) (passes : List Passed) (xs ys : List Numbered) (i : ℕ) (x y : Numbered) → i < length xs → ys ≡ rules_so_far change passes i xs → y ≡ get_or ys i y → x ≡ changed_rule change passes y → set ys i x ≡ rules_so_far change passes (i + 1) xs
rules_next change passes xs ys i x y lt is own new =
    let old : y ≡ get_or xs i y = own ∙ rules_there change passes xs ys i y lt is in
    rules_more change passes xs ys i x y lt is (new ∙ ap (changed_rule change passes) old)
