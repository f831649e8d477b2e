-- A chain keeps what it keeps true, through each edit.
use Rattle.std.proofs.Common.{◌≡◌, ℕ, ◌+◌, ◌-◌, ◌<◌, ◌≤◌, cond, ◌==◌, List, [], ◌∷◌, ◌++◌, length, map, get_or, Option, None, Some, slice_get, inl, inr, refl, sym, ap, subst, ◌∙◌, arith}
use Rattle.std.specs.List.{All, AllZip, insert, remove, sum_by}
use Rattle.std.proofs.lemmas.Bool.{cases_Bool}
use Rattle.std.proofs.lemmas.Bool.Decides.{nat_tests}
use Rattle.std.proofs.lemmas.Option.{get_or_from_slice_get}
use Rattle.std.proofs.lemmas.List.{map-append}
use Rattle.std.proofs.lemmas.List.Edits.{length-insert, length-remove}
use Rattle.std.proofs.lemmas.List.Elements.{All-nil, All-cons, All-head, All-map, All-tail, All-get_or, All-weaker, length_all_zip}
use Rattle.std.proofs.lemmas.List.Sums.{sum_by-cons, sum_by-insert, sum_by-remove, get_or-le-sum_by}
use Rattle.lb_wire.specs.declared.ids.RuleId.{RuleId}
use Rattle.lb_limits.specs.Window.{ArePasses, Limits, limits_of}
use Rattle.lb_terms.specs.Truth.{limiters_of}
use Rattle.lb_terms.specs.Limiters.{new_limiters, limiters_each}
use Rattle.lb_terms.specs.Selector.{Selector, All as Every, Suffix, Masks, Qtype, And, Or, Not, MaxQps, Selectors, end, more}
use Rattle.lb_chain.specs.Listed.{as_new}
use Rattle.lb_chain.specs.declared.rule.Rule.{Rule}
use Rattle.lb_chain.specs.declared.numbered.Numbered.{Numbered}
use Rattle.lb_chain.specs.Edits.{limiters_in, numbered_of, put_again}
use Rattle.lb_chain.specs.Chain.{HasPasses, IsChainRule, IsChain, with_id}
use Rattle.lb_chain.proofs.Sums.{all_insert, all_remove, sum_moved, limiters_at, limiters_sum}

-- the limiters that are made for a term have its rates
mutual
  pub own_new : (term : Selector) → map as_new (new_limiters term) ≡ new_limiters term
  own_new Every = refl
  own_new (Suffix names) = refl
  own_new (Masks group) = refl
  own_new (Qtype qtype) = refl
  own_new (And members) = own_each members
  own_new (Or members) = own_each members
  own_new (Not member) = own_new member
  own_new (MaxQps qps v4 v6) = refl

  pub own_each : (members : Selectors) → map as_new (limiters_each members) ≡ limiters_each members
  own_each end = refl
  own_each (more member members) =
      map-append as_new (new_limiters member) (limiters_each members) ∙ ap (λ (ls : List Limits). ls ++ map as_new (limiters_each members)) (own_new member) ∙ ap (λ (ls : List Limits). new_limiters member ++ ls) (own_each members)

-- they have no passes
none_are : (qps v4 v6 : ℕ) → ArePasses (limits_of qps v4 v6)
none_are qps v4 v6 = record {
  order = λ k d low lt. absurd (omega arith);
  count = λ k d lt. absurd (omega arith);
  rate = λ key. omega arith;
}

new_are : (term : Selector) → All ArePasses (new_limiters term)
new_are term = subst (All ArePasses) (own_new term) (All-map ArePasses as_new (new_limiters term) (λ k d lt. none_are _ _ _))

-- one where the rule has the number
abbrev pub has_id : ℕ → Numbered → ℕ
has_id id n = cond (n.id.0 == id) 1 0

-- a rule with the next number is put in
pub kept_added : (last moment limiters : ℕ) (rules : List Numbered) (place : ℕ) (n : Numbered) → IsChain last moment limiters rules → place ≤ length rules → length rules < 4096 → limiters + length n.limits ≤ 16 → n.id.0 ≡ last + 1 → IsChainRule moment n → IsChain (last + 1) moment (limiters + length n.limits) (insert rules place n)
kept_added last moment limiters rules place n chain at short few is kept =
    let counts : (id : ℕ) → with_id id (insert rules place n) ≡ with_id id rules + has_id id n = λ id. sum_by-insert (has_id id) rules place n in
    record {
      each = all_insert (IsChainRule moment) rules place n chain.each kept;
      count = omega (arith, limiters_sum (insert rules place n), limiters_sum rules, sum_by-insert limiters_at rules place n, chain.count);
      few = few;
      once = λ id. elim (cases_Bool (n.id.0 == id)) [
        | inl same ↦
            let own : has_id id n ≡ 1 = rw same refl in
            let next : id ≡ last + 1 = grind (arith, nat_tests) in
            omega (arith, counts id, chain.given id (omega arith))
        | inr other ↦
            let none : has_id id n ≡ 0 = rw other refl in
            omega (arith, counts id, chain.once id)
      ];
      given = λ id over. elim (cases_Bool (n.id.0 == id)) [
        | inl same ↦ absurd (grind (arith, nat_tests))
        | inr other ↦
            let none : has_id id n ≡ 0 = rw other refl in
            omega (arith, counts id, chain.given id (omega arith))
      ];
      short = omega (arith, length-insert rules place n at);
    }

-- no rule has more limiters than there are
pub limiters_within : (last moment limiters : ℕ) (rules : List Numbered) (at : ℕ) (n : Numbered) → IsChain last moment limiters rules → at < length rules → n ≡ get_or rules at n → length n.limits ≤ limiters
limiters_within last moment limiters rules at n chain lt is =
    let own : length n.limits ≡ limiters_at (get_or rules at n) = ap limiters_at is in
    omega (arith, get_or-le-sum_by limiters_at rules at n lt, limiters_sum rules, chain.count)

-- nor have all rules, however they are told
pub limiters_few : (last moment limiters : ℕ) (rules told : List Numbered) → told ≡ rules → IsChain last moment limiters rules → limiters_in told ≤ 16
limiters_few last moment limiters rules told is chain = omega (arith, ap limiters_in is, chain.count, chain.few)

-- a rule is taken out
pub kept_removed : (last moment limiters : ℕ) (rules : List Numbered) (at : ℕ) (n : Numbered) → IsChain last moment limiters rules → at < length rules → n ≡ get_or rules at n → IsChain last moment (limiters - length n.limits) (remove rules at)
kept_removed last moment limiters rules at n chain lt is =
    let counts : (id : ℕ) → with_id id (remove rules at) + has_id id (get_or rules at n) ≡ with_id id rules = λ id. sum_by-remove (has_id id) rules at n lt in
    let own : length n.limits ≡ limiters_at (get_or rules at n) = ap limiters_at is in
    record {
      each = all_remove (IsChainRule moment) rules at chain.each;
      count = omega (arith, limiters_sum (remove rules at), limiters_sum rules, sum_by-remove limiters_at rules at n lt, chain.count);
      few = omega (arith, chain.few);
      once = λ id. omega (arith, counts id, chain.once id);
      given = λ id over. omega (arith, counts id, chain.given id over);
      short = omega (arith, length-remove rules at lt, chain.short);
    }

-- a rule is moved
pub kept_moved : (last moment limiters : ℕ) (rules : List Numbered) (at place : ℕ) (d : Numbered) → IsChain last moment limiters rules → at < length rules → place < length rules → IsChain last moment limiters (insert (remove rules at) place (get_or rules at d))
kept_moved last moment limiters rules at place d chain lt to =
    let n : Numbered = get_or rules at d in
    let fits : place ≤ length (remove rules at) = omega (arith, length-remove rules at lt) in
    let counts : (id : ℕ) → with_id id (insert (remove rules at) place n) ≡ with_id id rules = λ id. sum_moved (has_id id) rules at place d lt in
    record {
      each = all_insert (IsChainRule moment) (remove rules at) place n (all_remove (IsChainRule moment) rules at chain.each) (All-get_or (IsChainRule moment) rules at d lt chain.each);
      count = omega (arith, limiters_sum (insert (remove rules at) place n), limiters_sum rules, sum_moved limiters_at rules at place d lt, chain.count);
      few = chain.few;
      once = λ id. omega (arith, counts id, chain.once id);
      given = λ id over. omega (arith, counts id, chain.given id over);
      short = omega (arith, length-insert (remove rules at) place n fits, length-remove rules at lt, chain.short);
    }

later : (moment now : ℕ) → moment ≤ now → (n : Numbered) → IsChainRule moment n → IsChainRule now n
later moment now le n kept = record {
  number = kept.number;
  own = kept.own;
  limiters = kept.limiters;
  moments = All-weaker (λ (l : Limits). l.moment ≤ moment) (λ (l : Limits). l.moment ≤ now) (λ l h. omega arith) n.limits kept.moments;
  passes = kept.passes;
}

-- time goes on
pub kept_later : (last moment now limiters : ℕ) (rules : List Numbered) → moment ≤ now → IsChain last moment limiters rules → IsChain last now limiters rules
kept_later last moment now limiters rules le chain = record {
  each = All-weaker (IsChainRule moment) (IsChainRule now) (later moment now le) rules chain.each;
  count = chain.count;
  few = chain.few;
  once = chain.once;
  given = chain.given;
  short = chain.short;
}

-- a rule as before: it has its number and its limiters, none of them is ahead of now, and their passes are as they have to be
pub record IsLike (now : ℕ) (a b : Numbered) : Type 0 where
  pub id : b.id ≡ a.id
  pub rule : b.rule ≡ a.rule
  pub limiters : length b.limits ≡ length a.limits
  pub rates : map as_new b.limits ≡ map as_new a.limits
  pub moments : All (λ l. l.moment ≤ now) b.limits
  pub passes : HasPasses b

like_each : (moment now : ℕ) (old new : List Numbered) → All (IsChainRule moment) old → AllZip (IsLike now) old new → All (IsChainRule now) new
like_each moment now [] [] each zip = All-nil (IsChainRule now)
like_each moment now (a ∷ old) (b ∷ new) each zip =
    let kept : IsChainRule moment a = All-head (IsChainRule moment) a old each in
    let here : IsChainRule now b = record {
      number = omega (arith, kept.number, ap (λ (id : RuleId). id.0) zip.0.id);
      own = zip.0.rates ∙ kept.own ∙ ap (λ (rule : Rule). new_limiters rule.term) (sym zip.0.rule);
      limiters = zip.0.limiters ∙ kept.limiters ∙ ap (λ (rule : Rule). limiters_of rule.term) (sym zip.0.rule);
      moments = zip.0.moments;
      passes = zip.0.passes;
    } in
    All-cons (IsChainRule now) b new here (like_each moment now old new (All-tail (IsChainRule moment) a old each) zip.1)
like_each moment now [] (b ∷ new) each zip = absurd zip
like_each moment now (a ∷ old) [] each zip = absurd zip

like_sum : (f : Numbered → ℕ) (now : ℕ) (old new : List Numbered) → ((a b : Numbered) → IsLike now a b → f b ≡ f a) → AllZip (IsLike now) old new → sum_by f new ≡ sum_by f old
like_sum f now [] [] same zip = refl
like_sum f now (a ∷ old) (b ∷ new) same zip = omega (arith, sum_by-cons f a old, sum_by-cons f b new, same a b zip.0, like_sum f now old new same zip.1)
like_sum f now [] (b ∷ new) same zip = absurd zip
like_sum f now (a ∷ old) [] same zip = absurd zip

-- rules as before, at a later moment
pub kept_like : (last moment now limiters : ℕ) (old new : List Numbered) → IsChain last moment limiters old → AllZip (IsLike now) old new → IsChain last now limiters new
kept_like last moment now limiters old new chain zip =
    let counts : (id : ℕ) → with_id id new ≡ with_id id old = λ id. like_sum (has_id id) now old new (λ a b like. ap (λ (rule : RuleId). cond (rule.0 == id) 1 0) like.id) zip in
    record {
      each = like_each moment now old new chain.each zip;
      count = omega (arith, limiters_sum new, limiters_sum old, like_sum limiters_at now old new (λ a b like. like.limiters) zip, chain.count);
      few = chain.few;
      once = λ id. omega (arith, counts id, chain.once id);
      given = λ id over. omega (arith, counts id, chain.given id over);
      short = omega (arith, length_all_zip (IsLike now) old new zip, chain.short);
    }

-- a rule is put again at another place
pub kept_put_again : (last moment limiters : ℕ) (rules new : List Numbered) (at place : ℕ) (found : Option Numbered) → IsChain last moment limiters rules → at < length rules → place < length rules → slice_get rules at ≡ found → new ≡ put_again rules at place found → IsChain last moment limiters new
kept_put_again last moment limiters rules new at place None chain lt to is new_is = subst (IsChain last moment limiters) (sym new_is) chain
kept_put_again last moment limiters rules new at place (Some n) chain lt to is new_is =
    let moved : IsChain last moment limiters (insert (remove rules at) place (get_or rules at n)) = kept_moved last moment limiters rules at place n chain lt to in
    let own : get_or rules at n ≡ n = get_or_from_slice_get rules at n n is in
    subst (IsChain last moment limiters) (ap (λ (m : Numbered). insert (remove rules at) place m) own ∙ sym new_is) moved

-- no rule has more than 16 limiters
pub few_each : (last moment limiters : ℕ) (rules : List Numbered) → IsChain last moment limiters rules → All (λ n. length n.limits ≤ 16) rules
few_each last moment limiters rules chain = λ k d lt. omega (arith, get_or-le-sum_by limiters_at rules k d lt, limiters_sum rules, chain.count, chain.few)

abbrev pub ArePast : ℕ → Numbered → Type 0
ArePast now n = All (λ l. l.moment ≤ now) n.limits

-- no limiter is ahead of a later moment
pub past_of : (last moment now limiters : ℕ) (rules : List Numbered) → moment ≤ now → IsChain last moment limiters rules → All (ArePast now) rules
past_of last moment now limiters rules le chain =
    All-weaker (IsChainRule now) (ArePast now) (λ n kept. kept.moments) rules (kept_later last moment now limiters rules le chain).each

-- the passes of each rule
pub passes_of_each : (last moment limiters : ℕ) (rules : List Numbered) → IsChain last moment limiters rules → All HasPasses rules
passes_of_each last moment limiters rules chain = All-weaker (IsChainRule moment) HasPasses (λ n kept. kept.passes) rules chain.each

-- a rule is added, with new limiters
pub kept_inserted : (last moment limiters count place : ℕ) (rules new : List Numbered) (rule : Rule) → IsChain last moment limiters rules → place ≤ length rules → length rules < 4096 → limiters + count ≤ 16 → count ≡ limiters_of rule.term → length (new_limiters rule.term) ≡ limiters_of rule.term → All (λ l. l.moment ≡ 0) (new_limiters rule.term) → new ≡ insert rules place (numbered_of (last + 1) rule) → IsChain (last + 1) moment (limiters + count) new
kept_inserted last moment limiters count place rules new rule chain at short few number made fresh is =
    let n : Numbered = numbered_of (last + 1) rule in
    let sum : limiters + length n.limits ≡ limiters + count = omega arith in
    let past : All (λ l. l.moment ≤ moment) (new_limiters rule.term) =
    All-weaker (λ (l : Limits). l.moment ≡ 0) (λ (l : Limits). l.moment ≤ moment) (λ l zero. omega arith) (new_limiters rule.term) fresh in
    let kept : IsChainRule moment n = record { number = omega arith; own = own_new rule.term; limiters = made; moments = past; passes = new_are rule.term } in
    let whole : IsChain (last + 1) moment (limiters + length n.limits) (insert rules place n) = kept_added last moment limiters rules place n chain at short (omega arith) refl kept in
    subst (IsChain (last + 1) moment (limiters + count)) (sym is) (subst (λ (k : ℕ). IsChain (last + 1) moment k (insert rules place n)) sum whole)
