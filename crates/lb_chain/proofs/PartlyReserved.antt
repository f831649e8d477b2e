-- Rules of which some limiters are reserved: nothing that is seen has changed.
use Rattle.std.proofs.Common.{◌≡◌, Bool, true, false, ℕ, zero, suc, ◌+◌, ◌<◌, ◌≤◌, List, [], ◌∷◌, length, get_or, set, map, refl, sym, ap, subst, ◌∙◌, arith, if◌then◌else◌}
use Rattle.std.specs.List.{All, AllZip}
use Rattle.std.proofs.lemmas.List.Elements.{All-nil, All-cons, All-head, All-tail}
use Rattle.lb_wire.specs.declared.addr.Addr.{Addr}
use Rattle.lb_wire.specs.declared.ids.RuleId.{RuleId}
use Rattle.lb_limits.specs.Window.{ArePasses, Limits, put_key, reserved_at, source_of}
use Rattle.lb_limits.specs.declared.pass.Pass.{Pass}
use Rattle.lb_limits.specs.Laws.{RecentArePasses, RecentTwice}
use Rattle.lb_chain.specs.declared.rule.Rule.{Rule}
use Rattle.lb_chain.specs.declared.walked.Passed.{Passed}
use Rattle.lb_chain.specs.declared.numbered.Numbered.{Numbered}
use Rattle.lb_chain.specs.Chain.{HasPasses}
use Rattle.lb_chain.specs.Counting.{has_pass, SomeReserved, PartlyReserved}
use Rattle.lb_chain.specs.Listed.{as_new}
use Rattle.lb_chain.specs.Seen.{seen_limits, seen_rule, seen_rules}
use Rattle.lb_chain.proofs.ChangedRules.{changed_at, limits_so_far, limits_there, rules_so_far, rules_there}
use Rattle.lb_chain.proofs.Chains.{IsLike, ArePast}

-- none is reserved yet
pub some_none : (passes : List Passed) (addr : Addr) (now : ℕ) (rule : RuleId) (at : ℕ) (xs : List Limits) → SomeReserved passes addr now rule at xs xs
some_none passes addr now rule at [] = tt
some_none passes addr now rule at (x ∷ xs) = (false, λ h. absurd (cc), refl, some_none passes addr now rule (at + 1) xs)

-- one more is reserved, or left where it has no pass
pub some_set : (passes : List Passed) (addr : Addr) (now : ℕ) (rule : RuleId) (at : ℕ) (old new : List Limits) (j : ℕ) (d x : Limits) → SomeReserved passes addr now rule at old new → j < length old → x ≡ changed_at (λ l. reserved_at l addr now) passes rule (at + j) (get_or old j d) → SomeReserved passes addr now rule at old (set new j x)
some_set passes addr now rule at [] [] j d x some lt is = absurd (omega arith)
some_set passes addr now rule at [] (m ∷ new) j d x some lt is = absurd some
some_set passes addr now rule at (l ∷ old) [] j d x some lt is = absurd some
some_set passes addr now rule at (l ∷ old) (m ∷ new) zero d x some lt is =
    let number : at + 0 ≡ at = omega arith in
    (has_pass passes rule at, λ h. h, is ∙ ap (λ (k : ℕ). changed_at (λ l. reserved_at l addr now) passes rule k l) number, some.3)
some_set passes addr now rule at (l ∷ old) (m ∷ new) (suc j) d x some lt is =
    let number : at + suc j ≡ (at + 1) + j = omega arith in
    let value : x ≡ changed_at (λ l. reserved_at l addr now) passes rule ((at + 1) + j) (get_or old j d) =
    is ∙ ap (λ (k : ℕ). changed_at (λ l. reserved_at l addr now) passes rule k (get_or old j d)) number in
    (some.0, some.1, some.2, some_set passes addr now rule (at + 1) old new j d x some.3 (omega arith) value)

pub partly_none : (passes : List Passed) (addr : Addr) (now : ℕ) (xs : List Numbered) → PartlyReserved passes addr now xs xs
partly_none passes addr now [] = tt
partly_none passes addr now (x ∷ xs) = (refl, refl, some_none passes addr now x.id 0 x.limits, partly_none passes addr now xs)

-- one more rule is partly reserved
pub partly_set : (passes : List Passed) (addr : Addr) (now : ℕ) (old new : List Numbered) (j : ℕ) (d x : Numbered) → PartlyReserved passes addr now old new → j < length old → x.id ≡ (get_or old j d).id → x.rule ≡ (get_or old j d).rule → SomeReserved passes addr now (get_or old j d).id 0 (get_or old j d).limits x.limits → PartlyReserved passes addr now old (set new j x)
partly_set passes addr now [] [] j d x partly lt id rule some = absurd (omega arith)
partly_set passes addr now [] (b ∷ new) j d x partly lt id rule some = absurd partly
partly_set passes addr now (a ∷ old) [] j d x partly lt id rule some = absurd partly
partly_set passes addr now (a ∷ old) (b ∷ new) zero d x partly lt id rule some = (id, rule, some, partly.3)
partly_set passes addr now (a ∷ old) (b ∷ new) (suc j) d x partly lt id rule some =
    (partly.0, partly.1, partly.2, partly_set passes addr now old new j d x partly.3 (omega arith) id rule some)

some_length : (passes : List Passed) (addr : Addr) (now : ℕ) (rule : RuleId) (at : ℕ) (old new : List Limits) → SomeReserved passes addr now rule at old new → length new ≡ length old
some_length passes addr now rule at [] [] some = refl
some_length passes addr now rule at [] (m ∷ new) some = absurd some
some_length passes addr now rule at (l ∷ old) [] some = absurd some
some_length passes addr now rule at (l ∷ old) (m ∷ new) some = omega (arith, some_length passes addr now rule (at + 1) old new some.3)

taken_rate : (addr : Addr) (now : ℕ) (taken : Bool) (l m : Limits) → m ≡ (if taken then reserved_at l addr now else l) → as_new m ≡ as_new l
taken_rate addr now true l m is = ap as_new is
taken_rate addr now false l m is = ap as_new is

some_rates : (passes : List Passed) (addr : Addr) (now : ℕ) (rule : RuleId) (at : ℕ) (old new : List Limits) → SomeReserved passes addr now rule at old new → map as_new new ≡ map as_new old
some_rates passes addr now rule at [] [] some = refl
some_rates passes addr now rule at [] (m ∷ new) some = absurd some
some_rates passes addr now rule at (l ∷ old) [] some = absurd some
some_rates passes addr now rule at (l ∷ old) (m ∷ new) some =
    ap (λ (k : Limits). k ∷ map as_new new) (taken_rate addr now some.0 l m some.2) ∙ ap (λ (ks : List Limits). as_new l ∷ ks) (some_rates passes addr now rule (at + 1) old new some.3)

abbrev IsPast : ℕ → Limits → Type 0
IsPast now l = l.moment ≤ now

taken_past : (addr : Addr) (now : ℕ) (taken : Bool) (l m : Limits) → m ≡ (if taken then reserved_at l addr now else l) → IsPast now l → IsPast now m
taken_past addr now true l m is le = let same : m.moment ≡ now = ap (λ (k : Limits). k.moment) is in omega arith
taken_past addr now false l m is le = let same : m.moment ≡ l.moment = ap (λ (k : Limits). k.moment) is in omega arith

some_past : (passes : List Passed) (addr : Addr) (now : ℕ) (rule : RuleId) (at : ℕ) (old new : List Limits) → All (IsPast now) old → SomeReserved passes addr now rule at old new → All (IsPast now) new
some_past passes addr now rule at [] [] past some = All-nil (IsPast now)
some_past passes addr now rule at [] (m ∷ new) past some = absurd some
some_past passes addr now rule at (l ∷ old) [] past some = absurd some
some_past passes addr now rule at (l ∷ old) (m ∷ new) past some =
    All-cons (IsPast now) m new (taken_past addr now some.0 l m some.2 (All-head (IsPast now) l old past))
    (some_past passes addr now rule (at + 1) old new (All-tail (IsPast now) l old past) some.3)

-- what the passes of a limiter keep true, they keep true where room is taken
taken_are : RecentArePasses → (addr : Addr) (now : ℕ) (taken : Bool) (l m : Limits) → m ≡ (if taken then reserved_at l addr now else l) → ArePasses l → ArePasses m
taken_are recent addr now true l m is are = subst ArePasses (sym is) (recent now l (put_key (source_of l addr) l.reserved) are)
taken_are recent addr now false l m is are = subst ArePasses (sym is) are

some_are : RecentArePasses → (passes : List Passed) (addr : Addr) (now : ℕ) (rule : RuleId) (at : ℕ) (old new : List Limits) → All ArePasses old → SomeReserved passes addr now rule at old new → All ArePasses new
some_are recent passes addr now rule at [] [] are some = All-nil ArePasses
some_are recent passes addr now rule at [] (m ∷ new) are some = absurd some
some_are recent passes addr now rule at (l ∷ old) [] are some = absurd some
some_are recent passes addr now rule at (l ∷ old) (m ∷ new) are some =
    All-cons ArePasses m new (taken_are recent addr now some.0 l m some.2 (All-head ArePasses l old are))
    (some_are recent passes addr now rule (at + 1) old new (All-tail ArePasses l old are) some.3)

-- each rule is as before
pub partly_like : RecentArePasses → (passes : List Passed) (addr : Addr) (now : ℕ) (old new : List Numbered) → All (λ n. All (λ l. l.moment ≤ now) n.limits) old → All HasPasses old → PartlyReserved passes addr now old new → AllZip (IsLike now) old new
partly_like recent passes addr now [] [] past are partly = tt
partly_like recent passes addr now [] (b ∷ new) past are partly = absurd partly
partly_like recent passes addr now (a ∷ old) [] past are partly = absurd partly
partly_like recent passes addr now (a ∷ old) (b ∷ new) past are partly =
    let here : IsLike now a b = record {
      id = partly.0;
      rule = partly.1;
      limiters = some_length passes addr now a.id 0 a.limits b.limits partly.2;
      rates = some_rates passes addr now a.id 0 a.limits b.limits partly.2;
      moments = some_past passes addr now a.id 0 a.limits b.limits (All-head (ArePast now) a old past) partly.2;
      passes = some_are recent passes addr now a.id 0 a.limits b.limits (All-head HasPasses a old are) partly.2;
    } in
    (here, partly_like recent passes addr now old new (All-tail (ArePast now) a old past) (All-tail HasPasses a old are) partly.3)

pub same_seen : (now : ℕ) (a b : Numbered) → b.id ≡ a.id → b.rule ≡ a.rule → map (seen_limits now) b.limits ≡ map (seen_limits now) a.limits → seen_rule now b ≡ seen_rule now a
same_seen now a b id rule limits =
    ap (λ (i : RuleId). record (seen_rule now b) { id = i }) id ∙ ap (λ (r : Rule). record (seen_rule now b) { id = a.id; rule = r }) rule ∙ ap (λ (ls : List Limits). record (seen_rule now a) { limits = ls }) limits

-- the next limiter is reserved, or left where it has no pass
pub some_next : (passes : List Passed) (addr : Addr) (now : ℕ) (rule : RuleId) (xs ys : List Limits) (i : ℕ) (wanted : Bool) (x y : Limits) → i < length xs → ys ≡ limits_so_far (λ l. reserved_at l addr now) passes rule i xs → y ≡ get_or ys i y → wanted ≡ has_pass passes rule i → x ≡ (if wanted then reserved_at y addr now else y) → SomeReserved passes addr now rule 0 xs ys → SomeReserved passes addr now rule 0 xs (set ys i x)
some_next passes addr now rule xs ys i wanted x y lt is own wants new some =
    let change : Limits → Limits = λ l. reserved_at l addr now in
    let number : i ≡ 0 + i = omega arith in
    let old : y ≡ get_or xs i y = own ∙ limits_there change passes rule xs ys i y lt is in
    let value : x ≡ changed_at change passes rule (0 + i) (get_or xs i y) =
    new ∙ ap (λ (b : Bool). if b then change y else y) wants ∙ ap (changed_at change passes rule i) old ∙ ap (λ (k : ℕ). changed_at change passes rule k (get_or xs i y)) number in
    some_set passes addr now rule 0 xs ys i y x some lt value

-- the next rule is partly reserved
pub partly_next : (passes : List Passed) (addr : Addr) (now : ℕ) (xs ys : List Numbered) (i : ℕ) (x y : Numbered) → i < length xs → ys ≡ rules_so_far (λ l. reserved_at l addr now) passes i xs → y ≡ get_or ys i y → x.id ≡ y.id → x.rule ≡ y.rule → SomeReserved passes addr now y.id 0 y.limits x.limits → PartlyReserved passes addr now xs ys → PartlyReserved passes addr now xs (set ys i x)
partly_next passes addr now xs ys i x y lt is own id rule some partly =
    let old : y ≡ get_or xs i y = own ∙ rules_there (λ l. reserved_at l addr now) passes xs ys i y lt is in
    partly_set passes addr now xs ys i y x partly lt (id ∙ ap (λ (n : Numbered). n.id) old) (rule ∙ ap (λ (n : Numbered). n.rule) old)
    (subst (λ (n : Numbered). SomeReserved passes addr now n.id 0 n.limits x.limits) old some)

-- where passes given up earlier change nothing later
module _ (recent_twice : RecentTwice) where
  taken_seen : (addr : Addr) (now : ℕ) (taken : Bool) (l m : Limits) → m ≡ (if taken then reserved_at l addr now else l) → seen_limits now m ≡ seen_limits now l
  taken_seen addr now false l m is = ap (seen_limits now) is
  taken_seen addr now true l m is =
      ap (seen_limits now) is ∙ ap (λ (passes : List Pass). record l { moment = now; passes = passes; reserved = [] }) (recent_twice now now l.passes (omega arith))

  some_seen : (passes : List Passed) (addr : Addr) (now : ℕ) (rule : RuleId) (at : ℕ) (old new : List Limits) → SomeReserved passes addr now rule at old new → map (seen_limits now) new ≡ map (seen_limits now) old
  some_seen passes addr now rule at [] [] some = refl
  some_seen passes addr now rule at [] (m ∷ new) some = absurd some
  some_seen passes addr now rule at (l ∷ old) [] some = absurd some
  some_seen passes addr now rule at (l ∷ old) (m ∷ new) some =
      ap (λ (k : Limits). k ∷ map (seen_limits now) new) (taken_seen addr now some.0 l m some.2) ∙ ap (λ (ks : List Limits). seen_limits now l ∷ ks) (some_seen passes addr now rule (at + 1) old new some.3)

  -- no walk and no count sees it
  pub partly_seen : (passes : List Passed) (addr : Addr) (now : ℕ) (old new : List Numbered) → PartlyReserved passes addr now old new → seen_rules now new ≡ seen_rules now old
  partly_seen passes addr now [] [] partly = refl
  partly_seen passes addr now [] (b ∷ new) partly = absurd partly
  partly_seen passes addr now (a ∷ old) [] partly = absurd partly
  partly_seen passes addr now (a ∷ old) (b ∷ new) partly =
      let limits : map (seen_limits now) b.limits ≡ map (seen_limits now) a.limits = some_seen passes addr now a.id 0 a.limits b.limits partly.2 in
      ap (λ (n : Numbered). n ∷ seen_rules now new) (same_seen now a b partly.0 partly.1 limits) ∙ ap (λ (ns : List Numbered). seen_rule now a ∷ ns) (partly_seen passes addr now old new partly.3)
