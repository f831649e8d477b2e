-- What the lists of a balancer keep true.
use Rattle.std.proofs.Common.{ℕ, ◌+◌, ◌<◌, List, [], ◌∷◌, map, get_or}
use Rattle.std.specs.List.{All}
use Rattle.std.proofs.lemmas.Bool.{ltb-true}
use Rattle.std.proofs.lemmas.List.Elements.{All-cons, All-nil, filter_passes}
use Rattle.lb_limits.specs.Moments.{is_recent}
use Rattle.lb_limits.specs.Window.{Limits, recent_passes}
use Rattle.lb_limits.specs.declared.pass.Pass.{Pass}
use Rattle.lb_chain.specs.declared.numbered.Numbered.{Numbered}
use Rattle.lb_chain.specs.Chain.{AreRules, SeenAreRules}
use Rattle.lb_chain.specs.Edits.{Rules}
use Rattle.lb_chain.specs.Seen.{seen_limits, seen_rule, seen_rules}
use Rattle.lb_servers.specs.Park.{AreBackends}
use Rattle.lb_table.specs.Table.{AreWaiting}
use Rattle.lb_cache.specs.Caches.{AreKept}
use Rattle.lb_step.specs.Laws.{AreLists, AreMarked}
use Rattle.lb_step.specs.Plain.{plain_of}
use Rattle.lb_step.specs.Upstream.{AreNumbered, Upstreams, backends_of, caches_of}

-- the passes that are seen at a moment count then
abbrev Count : ℕ → Limits → Type 0
Count moment l = All (λ (pass : Pass). moment < pass.moment + 1000) l.passes

passes_count : (moment : ℕ) (l : Limits) → Count moment (seen_limits moment l)
passes_count moment l = λ k d lt.
    ltb-true moment ((get_or (recent_passes moment l.passes) k d).moment + 1000) (filter_passes (λ (pass : Pass). is_recent moment pass.moment) l.passes k d lt)

limits_count : (moment : ℕ) (limits : List Limits) → All (Count moment) (map (seen_limits moment) limits)
limits_count moment [] = All-nil (Count moment)
limits_count moment (l ∷ limits) = All-cons (Count moment) (seen_limits moment l) (map (seen_limits moment) limits) (passes_count moment l) (limits_count moment limits)

rules_count : (moment : ℕ) (rules : List Numbered) → All (λ n. All (Count moment) n.limits) (seen_rules moment rules)
rules_count moment [] = All-nil (λ (n : Numbered). All (Count moment) n.limits)
rules_count moment (n ∷ rules) = All-cons (λ (n : Numbered). All (Count moment) n.limits) (seen_rule moment n) (seen_rules moment rules) (limits_count moment n.limits) (rules_count moment rules)

pub are_lists : SeenAreRules → (moment : ℕ) (chain : Rules) (ups : Upstreams) → AreRules chain → AreMarked (plain_of moment chain ups) → AreBackends (backends_of ups) → AreNumbered ups.next_cache ups.caches → AreWaiting ups.outstanding → AreKept (caches_of ups) →
    AreLists (plain_of moment chain ups)
are_lists seen moment chain ups rules servers backends numbered outstanding kept = record {
  rules = seen moment chain rules;
  passes = rules_count moment chain.rules;
  servers = servers;
  backends = backends;
  numbered = numbered;
  outstanding = outstanding;
  kept = kept;
}
