-- What is listed of rules determines what is seen of them.
use Rattle.std.proofs.Common.{◌≡◌, ℕ, ◌+◌, ◌<◌, List, [], ◌∷◌, ◌++◌, length, map, refl, sym, ap, subst, ◌∙◌, arith}
use Rattle.std.specs.List.{All, filter}
use Rattle.std.proofs.lemmas.List.Elements.{All-nil, All-cons, All-head, All-tail}
use Rattle.lb_limits.specs.Window.{Limits, recent_passes}
use Rattle.lb_limits.specs.declared.pass.Pass.{Pass}
use Rattle.lb_terms.specs.Limiters.{new_limiters}
use Rattle.lb_chain.specs.declared.rule.Rule.{Rule}
use Rattle.lb_chain.specs.declared.numbered.Numbered.{Numbered}
use Rattle.lb_chain.specs.declared.listed.Listed.{Listed}
use Rattle.lb_chain.specs.declared.listed.RulePass.{RulePass}
use Rattle.lb_chain.specs.Listed.{counted_from, counts_at, listed_of, as_new, HasOwnLimiters}
use Rattle.lb_chain.specs.Seen.{seen_limits, seen_rule, seen_rules}
use Rattle.lb_chain.proofs.CountedFrom.{counted_recent, pass_at}
use Rattle.lb_chain.proofs.PartlyReserved.{same_seen}

-- the first pass, if there is one, is of a later limiter
abbrev IsBehind : ℕ → List RulePass → Type 0
IsBehind at [] = Unit {0}
IsBehind at (p ∷ passes) = at < p.limiter

behind_front : (at k : ℕ) (passes : List Pass) (rest : List RulePass) → at < k → IsBehind at rest → IsBehind at (map (pass_at k) passes ++ rest)
behind_front at k [] rest lt behind = behind
behind_front at k (p ∷ passes) rest lt behind = lt

counted_behind : (at k : ℕ) (limits : List Limits) → at < k → IsBehind at (counted_from k limits)
counted_behind at k [] lt = tt
counted_behind at k (l ∷ limits) lt = behind_front at k l.passes (counted_from (k + 1) limits) lt (counted_behind at (k + 1) limits (omega arith))

-- the passes of the first limiter, and those of the others
parted : (at : ℕ) (a b : List Pass) (c d : List RulePass) → IsBehind at c → IsBehind at d → map (pass_at at) a ++ c ≡ map (pass_at at) b ++ d → (a ≡ b) × (c ≡ d)
parted at [] [] c d behind after is = (refl, is)
parted at [] (q ∷ b) c d behind after is = absurd (let wrong : at < at = subst (IsBehind at) is behind in omega arith)
parted at (p ∷ a) [] c d behind after is = absurd (let wrong : at < at = subst (IsBehind at) (sym is) after in omega arith)
parted at (p ∷ a) (q ∷ b) c d behind after is =
    let heads : pass_at at p ≡ pass_at at q = cc in
    let tails : map (pass_at at) a ++ c ≡ map (pass_at at) b ++ d = cc in
    let more = parted at a b c d behind after tails in
    let here : p ≡ q = ap (λ (x : RulePass). x.pass) heads in
    (ap (λ (x : Pass). x ∷ a) here ∙ ap (λ (xs : List Pass). q ∷ xs) more.0, more.1)

one_alike : (now : ℕ) (x y : Limits) → as_new x ≡ as_new y → x.passes ≡ y.passes → seen_limits now x ≡ seen_limits now y
one_alike now x y rate passes =
    ap (λ (l : Limits). record l { moment = now; passes = recent_passes now x.passes }) rate ∙ ap (λ (ps : List Pass). record (as_new y) { moment = now; passes = recent_passes now ps }) passes

limits_alike : (now at : ℕ) (xs ys : List Limits) → map as_new xs ≡ map as_new ys → counted_from at xs ≡ counted_from at ys → map (seen_limits now) xs ≡ map (seen_limits now) ys
limits_alike now at [] [] rates passes = refl
limits_alike now at [] (y ∷ ys) rates passes = absurd (let long : 0 ≡ length (as_new y ∷ map as_new ys) = ap length rates in omega arith)
limits_alike now at (x ∷ xs) [] rates passes = absurd (let long : length (as_new x ∷ map as_new xs) ≡ 0 = ap length rates in omega arith)
limits_alike now at (x ∷ xs) (y ∷ ys) rates passes =
    let rate : as_new x ≡ as_new y = cc in
    let others : map as_new xs ≡ map as_new ys = cc in
    let parts = parted at x.passes y.passes (counted_from (at + 1) xs) (counted_from (at + 1) ys) (counted_behind at (at + 1) xs (omega arith)) (counted_behind at (at + 1) ys (omega arith)) passes in
    ap (λ (l : Limits). l ∷ map (seen_limits now) xs) (one_alike now x y rate parts.0) ∙ ap (λ (ls : List Limits). seen_limits now y ∷ ls) (limits_alike now (at + 1) xs ys others parts.1)

rule_alike : (now : ℕ) (a b : Numbered) → HasOwnLimiters a → HasOwnLimiters b → listed_of a ≡ listed_of b → seen_rule now a ≡ seen_rule now b
rule_alike now a b own other is =
    let rule : a.rule ≡ b.rule = ap (λ (l : Listed). l.rule) is in
    let rates : map as_new a.limits ≡ map as_new b.limits = own ∙ ap (λ (r : Rule). new_limiters r.term) rule ∙ sym other in
    same_seen now b a (ap (λ (l : Listed). l.id) is) rule (limits_alike now 0 a.limits b.limits rates (ap (λ (l : Listed). l.passes) is))

pub listed_alike : (a b : List Numbered) → All HasOwnLimiters a → All HasOwnLimiters b → map listed_of a ≡ map listed_of b → (now : ℕ) → seen_rules now a ≡ seen_rules now b
listed_alike [] [] own other is now = refl
listed_alike [] (n ∷ b) own other is now = absurd (let long : 0 ≡ length (listed_of n ∷ map listed_of b) = ap length is in omega arith)
listed_alike (m ∷ a) [] own other is now = absurd (let long : length (listed_of m ∷ map listed_of a) ≡ 0 = ap length is in omega arith)
listed_alike (m ∷ a) (n ∷ b) own other is now =
    let here : listed_of m ≡ listed_of n = cc in
    let rest : map listed_of a ≡ map listed_of b = cc in
    ap (λ (k : Numbered). k ∷ seen_rules now a) (rule_alike now m n (All-head HasOwnLimiters m a own) (All-head HasOwnLimiters n b other) here)
    ∙ ap (λ (ks : List Numbered). seen_rule now n ∷ ks) (listed_alike a b (All-tail HasOwnLimiters m a own) (All-tail HasOwnLimiters n b other) rest now)

seen_rates : (moment : ℕ) (limits : List Limits) → map as_new (map (seen_limits moment) limits) ≡ map as_new limits
seen_rates moment [] = refl
seen_rates moment (l ∷ limits) = ap (λ (ls : List Limits). as_new l ∷ ls) (seen_rates moment limits)

pub seen_own : (moment : ℕ) (rules : List Numbered) → All HasOwnLimiters rules → All HasOwnLimiters (seen_rules moment rules)
seen_own moment [] own = All-nil HasOwnLimiters
seen_own moment (n ∷ rules) own =
    All-cons HasOwnLimiters (seen_rule moment n) (seen_rules moment rules) (seen_rates moment n.limits ∙ All-head HasOwnLimiters n rules own) (seen_own moment rules (All-tail HasOwnLimiters n rules own))

-- a rule as it is listed, with the passes alone that count at a moment, is the rule seen then as it is listed
pub listed_seen : (now : ℕ) (n : Numbered) (l : Listed) (passes : List RulePass) → l ≡ listed_of n → passes ≡ filter (counts_at now) l.passes → record l { passes = passes } ≡ listed_of (seen_rule now n)
listed_seen now n l passes is kept =
    let recent : passes ≡ counted_from 0 (map (seen_limits now) n.limits) = kept ∙ ap (λ (k : Listed). filter (counts_at now) k.passes) is ∙ counted_recent now 0 n.limits in
    ap (λ (k : Listed). record k { passes = passes }) is ∙ ap (λ (ps : List RulePass). record (listed_of n) { passes = ps }) recent
