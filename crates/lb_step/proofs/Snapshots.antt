-- Equal snapshots are of equal states.
use Rattle.std.proofs.Common.{◌≡◌, ℕ, List, sym, ◌∙◌, ap}
use Rattle.lb_chain.specs.declared.numbered.Numbered.{Numbered}
use Rattle.lb_chain.specs.Listed.{ListedAlikeSeenAlike}
use Rattle.lb_chain.specs.Seen.{seen_rules}
use Rattle.lb_step.specs.Plain.{Plain}
use Rattle.lb_step.specs.Snapshot.{EqualSnapshotsEqualStates, Snapshot, snapshot_of}

-- the state of a snapshot, with these rules
abbrev state_of : Snapshot → List Numbered → Plain
state_of s rules = record {
  moment = s.moment;
  timeout = s.timeout;
  next_rule = s.next_rule;
  next_server = s.next_server;
  next_cache = s.next_cache;
  rules = rules;
  servers = s.servers;
  checks = s.checks;
  pools = s.pools;
  caches = s.caches;
  outstanding = s.outstanding;
  kept = s.kept;
}

pub equal_states : ListedAlikeSeenAlike → EqualSnapshotsEqualStates
equal_states alike a b shown_a shown_b same =
    let rules : a.rules ≡ b.rules =
    sym shown_a.seen
    ∙ alike a.rules b.rules shown_a.own shown_b.own (ap (λ (s : Snapshot). s.rules) same) a.moment
    ∙ ap (λ (m : ℕ). seen_rules m b.rules) (ap (λ (s : Snapshot). s.moment) same)
    ∙ shown_b.seen in
    ap (λ (s : Snapshot). state_of s a.rules) same ∙ ap (state_of (snapshot_of b)) rules
