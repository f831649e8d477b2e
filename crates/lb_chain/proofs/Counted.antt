-- A chain after the passes of a walk were reserved or counted.
use Rattle.std.proofs.Common.{refl, ◌≡◌, ℕ, ◌+◌, ◌≤◌, ◌==◌, true, List, [], ◌∷◌, length, inl, inr, sym, ap, subst, ◌∙◌, arith}
use Rattle.std.specs.List.{All}
use Rattle.std.proofs.lemmas.Bool.{cases_Bool, eqb-true}
use Rattle.std.proofs.lemmas.List.{nil_from_length}
use Rattle.std.proofs.lemmas.List.Elements.{All-cons, All-head, All-nil, All-tail}
use Rattle.lb_wire.specs.declared.addr.Addr.{Addr}
use Rattle.lb_wire.specs.declared.ids.RuleId.{RuleId}
use Rattle.lb_wire.specs.declared.transport.Kind.{Kind}
use Rattle.lb_wire.specs.declared.query.QueryView.{QueryView}
use Rattle.lb_limits.specs.Window.{ArePasses, Limits, passed_at, reserved_at}
use Rattle.lb_limits.specs.Laws.{PassedArePasses, PutIsThere, RecentArePasses, RecentTwice, ReservingKeepsMatches}
use Rattle.lb_chain.specs.declared.walked.Passed.{Passed}
use Rattle.lb_chain.specs.declared.numbered.Numbered.{Numbered}
use Rattle.lb_chain.specs.Edits.{Rules}
use Rattle.lb_chain.specs.Chain.{HasPasses, IsChain}
use Rattle.lb_chain.specs.Places.{places_of}
use Rattle.lb_chain.specs.Counting.{changed_limits, changed_rule, changed_rules, counted, has_pass, passed_rules, reserved_rules, LimitersReady, PartlyReserved, RulesReady}
use Rattle.lb_chain.specs.Seen.{seen_rules}
use Rattle.lb_chain.specs.Walk.{walk_of}
use Rattle.lb_chain.proofs.ChangedRules.{changed_at, changed_like, nothing_changed}
use Rattle.lb_chain.proofs.Chains.{kept_like, passes_of_each, past_of}
use Rattle.lb_chain.proofs.PartlyReserved.{partly_like}
use Rattle.lb_chain.proofs.PlacesFrom.{places_like}
use Rattle.lb_chain.proofs.RulesReady.{ready_walk}
use Rattle.lb_chain.proofs.Seen.{seen_counted}

-- a list that is found empty
pub found_empty : (passes own : List Passed) → passes ≡ own → true ≡ (length passes == 0) → own ≡ []
found_empty passes own same is = sym same ∙ nil_from_length passes (eqb-true (length passes) 0 (sym is))

-- reserved, in part or whole, a chain keeps what it keeps
pub kept_reserved : RecentArePasses → (last moment now limiters : ℕ) (places : List ℕ) (passes : List Passed) (addr : Addr) (rules new : List Numbered) → moment ≤ now → IsChain last moment limiters rules × (places ≡ places_of rules) → PartlyReserved passes addr now rules new → IsChain last now limiters new × (places ≡ places_of new)
kept_reserved recent last moment now limiters places passes addr rules new le chain partly =
    let like = partly_like recent passes addr now rules new (past_of last moment now limiters rules le chain.0) (passes_of_each last moment limiters rules chain.0) partly in
    (kept_like last moment now limiters rules new chain.0 like, chain.1 ∙ sym (places_like now 0 rules new like))

-- counted, each limiter's passes stay as they have to be
limits_passed : PassedArePasses → (passes : List Passed) (addr : Addr) (now : ℕ) (rule : RuleId) (at : ℕ) (limits : List Limits) → LimitersReady passes addr now rule at limits → All ArePasses limits → All ArePasses (changed_limits (λ l. passed_at l addr now) passes rule at limits)
limits_passed passed passes addr now rule at [] ready are = All-nil ArePasses
limits_passed passed passes addr now rule at (l ∷ limits) ready are =
    let change : Limits → Limits = λ m. passed_at m addr now in
    let own : ArePasses l = All-head ArePasses l limits are in
    let here : ArePasses (changed_at change passes rule at l) = elim (cases_Bool (has_pass passes rule at)) [ inl is ↦ rw is (passed l addr now (ready.0 is).within own) | inr is ↦ rw is own ] in
    All-cons ArePasses (changed_at change passes rule at l) (changed_limits change passes rule (at + 1) limits) here (limits_passed passed passes addr now rule (at + 1) limits ready.1 (All-tail ArePasses l limits are))

rules_passed : PassedArePasses → (passes : List Passed) (addr : Addr) (now : ℕ) (rules : List Numbered) → RulesReady passes addr now rules → All HasPasses rules → All HasPasses (counted passes addr now rules)
rules_passed passed passes addr now [] ready are = All-nil HasPasses
rules_passed passed passes addr now (n ∷ rules) ready are =
    All-cons HasPasses (changed_rule (λ l. passed_at l addr now) passes n) (counted passes addr now rules) (limits_passed passed passes addr now n.id 0 n.limits ready.0 (All-head HasPasses n rules are))
    (rules_passed passed passes addr now rules ready.1 (All-tail HasPasses n rules are))

-- so it does once the passes are counted
pub kept_counted : PassedArePasses → (last moment now limiters : ℕ) (places : List ℕ) (passes : List Passed) (addr : Addr) (rules new : List Numbered) → moment ≤ now → IsChain last moment limiters rules × (places ≡ places_of rules) → RulesReady passes addr now rules → new ≡ counted passes addr now rules → IsChain last now limiters new × (places ≡ places_of new)
kept_counted passed last moment now limiters places passes addr rules new le chain ready is =
    let like = changed_like (λ l. passed_at l addr now) passes now rules (λ l. omega arith) (λ l. refl) (past_of last moment now limiters rules le chain.0) (rules_passed passed passes addr now rules ready (passes_of_each last moment limiters rules chain.0)) in
    subst (λ (ns : List Numbered). IsChain last now limiters ns × (places ≡ places_of ns)) (sym is)
    (kept_like last moment now limiters rules (counted passes addr now rules) chain.0 like, chain.1 ∙ sym (places_like now 0 rules (counted passes addr now rules) like))

-- what is seen of the chain once the passes are counted
pub seen_passed : RecentTwice → (passes : List Passed) (addr : Addr) (now : ℕ) (rules new : List Numbered) → new ≡ counted passes addr now rules → seen_rules now new ≡ counted passes addr now (seen_rules now rules)
seen_passed twice passes addr now rules new is = ap (seen_rules now) is ∙ seen_counted twice addr now passes rules

-- without passes nothing is counted
pub passed_idle : (passes : List Passed) (addr : Addr) (now : ℕ) (chain : Rules) → passes ≡ [] → record chain { moment = now } ≡ passed_rules passes addr now chain
passed_idle passes addr now chain is = ap (λ (rules : List Numbered). record chain { moment = now; rules = rules }) (sym (nothing_changed (λ l. passed_at l addr now) passes chain.rules is))

pub seen_idle : (passes : List Passed) (addr : Addr) (now : ℕ) (rules : List Numbered) → passes ≡ [] → seen_rules now rules ≡ counted passes addr now (seen_rules now rules)
seen_idle passes addr now rules is = sym (nothing_changed (λ l. passed_at l addr now) passes (seen_rules now rules) is)

-- nor is anything reserved
pub reserved_idle : (passes : List Passed) (addr : Addr) (now : ℕ) (chain : Rules) → passes ≡ [] → record chain { moment = now } ≡ reserved_rules passes addr now chain
reserved_idle passes addr now chain is = ap (λ (rules : List Numbered). record chain { moment = now; rules = rules }) (sym (nothing_changed (λ l. reserved_at l addr now) passes chain.rules is))

-- after the reservation for a walk of a chain, its passes may be counted
pub ready_reserved : PutIsThere → ReservingKeepsMatches → (last moment now limiters : ℕ) (passes : List Passed) (addr : Addr) (rules new : List Numbered) (view : QueryView) (kind : Kind) → IsChain last moment limiters rules → passes ≡ (walk_of rules view addr kind now).passes → new ≡ changed_rules (λ l. reserved_at l addr now) passes rules → RulesReady passes addr now new
ready_reserved put keeps last moment now limiters passes addr rules new view kind chain walked is =
    subst (RulesReady passes addr now) (sym is) (ready_walk put keeps rules view addr kind now passes chain.once walked)
