-- Rules as they are seen at a moment: walks, counts and later moments.
use Rattle.std.proofs.Common.{◌≡◌, Bool, true, false, ℕ, ◌+◌, ◌≤◌, List, [], ◌∷◌, ◌++◌, length, map, take, drop, Option, Some, None, inl, inr, refl, sym, ap, ◌∙◌, arith}
use Rattle.std.specs.List.{All, filter, insert, position}
use Rattle.std.specs.Option.{unwrap_or}
use Rattle.lb_limits.specs.Order.{is_before}
use Rattle.std.proofs.lemmas.Bool.{cases_Bool}
use Rattle.std.proofs.lemmas.Bool.Decides.{nat_tests}
use Rattle.std.proofs.lemmas.List.Elements.{All-head, All-tail, All-take, All-drop, filter-append, filter_passes}
use Rattle.lb_wire.specs.declared.addr.Addr.{Addr}
use Rattle.lb_wire.specs.declared.ids.RuleId.{RuleId}
use Rattle.lb_wire.specs.declared.transport.Kind.{Kind}
use Rattle.lb_wire.specs.declared.query.QueryView.{QueryView}
use Rattle.lb_limits.specs.Moments.{is_recent}
use Rattle.lb_limits.specs.Window.{Limits, recent_passes, source_of, matches, passed_at, put_pass}
use Rattle.lb_limits.specs.declared.pass.Pass.{Pass}
use Rattle.lb_limits.specs.Laws.{RecentTwice}
use Rattle.lb_terms.specs.Truth.{Asked, asked_of, truth_at, passes_at}
use Rattle.lb_chain.specs.declared.walked.Passed.{Passed}
use Rattle.lb_chain.specs.declared.walked.Verdict.{Verdict}
use Rattle.lb_chain.specs.declared.walked.Walked.{Walked}
use Rattle.lb_chain.specs.declared.numbered.Numbered.{Numbered}
use Rattle.lb_chain.specs.Counting.{has_pass, changed_limits, changed_rule, counted}
use Rattle.lb_chain.specs.Seen.{seen_limits, seen_rule, seen_rules}
use Rattle.lb_chain.proofs.Passes.{matched_of}
use Rattle.lb_chain.specs.Walk.{ending_of, tested_by, tests_of, walk_of}

tested_seen : (moment : ℕ) (n : Numbered) (truth : Bool) (ending : Option Verdict) (passes : List Passed) (t : ℕ) (after : Walked) → tested_by (seen_rule moment n) truth ending passes t after ≡ tested_by n truth ending passes t after
tested_seen moment n true None passes t after = refl
tested_seen moment n true (Some verdict) passes t after = refl
tested_seen moment n false ending passes t after = refl

-- a rule of the walk by what it is asked of
abbrev step : Numbered → QueryView → Kind → Asked → Walked → Walked
step n view kind asked after = tested_by n (truth_at n.rule.term asked 0) (ending_of n.rule.action view kind) (map (λ at. record { rule = n.id; limiter = at }) (passes_at n.rule.term asked 0)) (tests_of n view asked.addr) after

filter_all : (p : Pass → Bool) (xs : List Pass) → All (λ x. p x ≡ true) xs → filter p xs ≡ xs
filter_all p [] all = refl
filter_all p (x ∷ xs) all =
    let here : p x ≡ true = All-head (λ (y : Pass). p y ≡ true) x xs all in
    rw here (ap (λ (ys : List Pass). x ∷ ys) (filter_all p xs (All-tail (λ (y : Pass). p y ≡ true) x xs all)))

filter_insert : (p : Pass → Bool) (xs : List Pass) (i : ℕ) (y : Pass) → All (λ x. p x ≡ true) xs → p y ≡ true → filter p (insert xs i y) ≡ insert xs i y
filter_insert p xs i y all here =
    let front : filter p (take i xs) ≡ take i xs = filter_all p (take i xs) (All-take (λ (x : Pass). p x ≡ true) i xs all) in
    let back : filter p (drop i xs) ≡ drop i xs = filter_all p (drop i xs) (All-drop (λ (x : Pass). p x ≡ true) i xs all) in
    let own : filter p (y ∷ drop i xs) ≡ y ∷ drop i xs = rw here (ap (λ (ys : List Pass). y ∷ ys) back) in
    filter-append p (take i xs) (y ∷ drop i xs) ∙ ap (λ (zs : List Pass). zs ++ filter p (y ∷ drop i xs)) front ∙ ap (λ (zs : List Pass). take i xs ++ zs) own

-- a pass counts at its own moment
counts_now : (now : ℕ) (pass : Pass) → pass.moment ≡ now → is_recent now pass.moment ≡ true
counts_now now pass is = grind (arith, nat_tests)

late_put : (now : ℕ) (pass : Pass) (xs : List Pass) → pass.moment ≡ now → recent_passes now (put_pass pass (recent_passes now xs)) ≡ put_pass pass (recent_passes now xs)
late_put now pass xs is =
    let ys : List Pass = recent_passes now xs in
    filter_insert (λ (pass : Pass). is_recent now pass.moment) ys (unwrap_or (position (is_before pass) ys) (length ys)) pass (filter_passes (λ (pass : Pass). is_recent now pass.moment) xs) (counts_now now pass is)

-- where passes given up earlier change nothing later
module _ (recent_twice : RecentTwice) where
  limits_twice : (moment now : ℕ) (limits : List Limits) → moment ≤ now → map (seen_limits now) (map (seen_limits moment) limits) ≡ map (seen_limits now) limits
  limits_twice moment now [] le = refl
  limits_twice moment now (l ∷ limits) le =
      let here : seen_limits now (seen_limits moment l) ≡ seen_limits now l = ap (λ (passes : List Pass). record l { moment = now; passes = passes; reserved = [] }) (recent_twice moment now l.passes le) in
      ap (λ (k : Limits). k ∷ map (seen_limits now) (map (seen_limits moment) limits)) here ∙ ap (λ (ks : List Limits). seen_limits now l ∷ ks) (limits_twice moment now limits le)

  -- what is seen later does not depend on what was seen before
  pub twice : (moment now : ℕ) (rules : List Numbered) → moment ≤ now → seen_rules now (seen_rules moment rules) ≡ seen_rules now rules
  twice moment now [] le = refl
  twice moment now (n ∷ rules) le =
      let here : seen_rule now (seen_rule moment n) ≡ seen_rule now n = ap (λ (ls : List Limits). record n { limits = ls }) (limits_twice moment now n.limits le) in
      ap (λ (m : Numbered). m ∷ seen_rules now (seen_rules moment rules)) here ∙ ap (λ (ms : List Numbered). seen_rule now n ∷ ms) (twice moment now rules le)

  matches_seen : (l : Limits) (addr : Addr) (moment now : ℕ) → moment ≤ now → matches (seen_limits moment l) addr now ≡ matches l addr now
  matches_seen l addr moment now le = rw (recent_twice moment now l.passes le) refl

  matched_seen : (moment now : ℕ) (addr : Addr) (limits : List Limits) → moment ≤ now → matched_of addr now (map (seen_limits moment) limits) ≡ matched_of addr now limits
  matched_seen moment now addr [] le = refl
  matched_seen moment now addr (l ∷ limits) le =
      ap (λ (b : Bool). b ∷ matched_of addr now (map (seen_limits moment) limits)) (matches_seen l addr moment now le) ∙ ap (λ (bs : List Bool). matches l addr now ∷ bs) (matched_seen moment now addr limits le)

  -- rules seen at a moment give the walks of the rules themselves
  pub walks : (moment now : ℕ) (rules : List Numbered) (view : QueryView) (addr : Addr) (kind : Kind) → moment ≤ now → walk_of (seen_rules moment rules) view addr kind now ≡ walk_of rules view addr kind now
  walks moment now [] view addr kind le = refl
  walks moment now (n ∷ rules) view addr kind le =
      let seen : Asked = asked_of view addr (map (seen_limits moment) n.limits) now in
      let own : Asked = asked_of view addr n.limits now in
      let same : seen ≡ own = ap (λ (bs : List Bool). record own { matched = bs }) (matched_seen moment now addr n.limits le) in
      let after : Walked = walk_of (seen_rules moment rules) view addr kind now in
      tested_seen moment n (truth_at n.rule.term seen 0) (ending_of n.rule.action view kind) (map (λ at. record { rule = n.id; limiter = at }) (passes_at n.rule.term seen 0)) (tests_of n view addr) after
      ∙ ap (λ (asked : Asked). step n view kind asked after) same ∙ ap (λ (w : Walked). step n view kind own w) (walks moment now rules view addr kind le)

  -- a limiter is seen with the pass that it counts now
  passed_seen : (addr : Addr) (now : ℕ) (l : Limits) → seen_limits now (passed_at l addr now) ≡ passed_at (seen_limits now l) addr now
  passed_seen addr now l =
      let pass : Pass = record { source = source_of l addr; moment = now } in
      ap (λ (passes : List Pass). record l { moment = now; passes = passes; reserved = [] })
      (late_put now pass l.passes refl ∙ ap (put_pass pass) (sym (recent_twice now now l.passes (omega arith))))

  limits_counted : (addr : Addr) (now : ℕ) (passes : List Passed) (rule : RuleId) (at : ℕ) (limits : List Limits) → map (seen_limits now) (changed_limits (λ l. passed_at l addr now) passes rule at limits) ≡ changed_limits (λ l. passed_at l addr now) passes rule at (map (seen_limits now) limits)
  limits_counted addr now passes rule at [] = refl
  limits_counted addr now passes rule at (l ∷ limits) =
      let rest : map (seen_limits now) (changed_limits (λ k. passed_at k addr now) passes rule (at + 1) limits) ≡ changed_limits (λ k. passed_at k addr now) passes rule (at + 1) (map (seen_limits now) limits) =
      limits_counted addr now passes rule (at + 1) limits in
      elim (cases_Bool (has_pass passes rule at)) [
        | inl is ↦
            rw is
            (ap (λ (k : Limits). k ∷ map (seen_limits now) (changed_limits (λ k. passed_at k addr now) passes rule (at + 1) limits)) (passed_seen addr now l) ∙ ap (λ (ks : List Limits). passed_at (seen_limits now l) addr now ∷ ks) rest)
        | inr is ↦ rw is (ap (λ (ks : List Limits). seen_limits now l ∷ ks) rest)
      ]

  -- what is seen of rules that counted is what the rules that are seen count
  pub seen_counted : (addr : Addr) (now : ℕ) (passes : List Passed) (rules : List Numbered) → seen_rules now (counted passes addr now rules) ≡ counted passes addr now (seen_rules now rules)
  seen_counted addr now passes [] = refl
  seen_counted addr now passes (n ∷ rules) =
      let here : seen_rule now (changed_rule (λ l. passed_at l addr now) passes n) ≡ changed_rule (λ l. passed_at l addr now) passes (seen_rule now n) =
      ap (λ (ls : List Limits). record n { limits = ls }) (limits_counted addr now passes n.id 0 n.limits) in
      ap (λ (m : Numbered). m ∷ seen_rules now (counted passes addr now rules)) here ∙ ap (λ (ms : List Numbered). changed_rule (λ l. passed_at l addr now) passes (seen_rule now n) ∷ ms) (seen_counted addr now passes rules)
