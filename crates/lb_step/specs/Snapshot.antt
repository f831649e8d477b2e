-- Snapshots: the plain state as lists that the program can hold.
use Rattle.std.specs.Prelude.{◌≡◌, ℕ, List, map}
use Rattle.std.specs.List.{All}
use Rattle.lb_chain.specs.declared.listed.Listed.{Listed}
use Rattle.lb_chain.specs.Listed.{HasOwnLimiters, listed_of}
use Rattle.lb_chain.specs.Seen.{seen_rules}
use Rattle.lb_cache.specs.declared.cached.AttachedCache.{AttachedCache}
use Rattle.lb_cache.specs.declared.cached.KeptReply.{KeptReply}
use Rattle.lb_servers.specs.declared.pool.Pool.{Pool}
use Rattle.lb_servers.specs.declared.server.Server.{Server}
use Rattle.lb_table.specs.declared.entry.Waiting.{Waiting}
use Rattle.lb_step.specs.declared.check.Check.{Check}
use Rattle.lb_step.specs.Plain.{Plain}

-- the parts of a plain state, each as a list, the rules as they are listed: with the passes that count at the moment
pub record Snapshot : Type 0 where
  pub moment : ℕ
  pub timeout : ℕ
  pub next_rule : ℕ
  pub next_server : ℕ
  pub next_cache : ℕ
  pub rules : List Listed
  pub servers : List Server
  pub checks : List Check
  pub pools : List Pool
  pub caches : List AttachedCache
  pub outstanding : List Waiting
  pub kept : List KeptReply

abbrev pub snapshot_of : Plain → Snapshot
snapshot_of plain = record {
  moment = plain.moment;
  timeout = plain.timeout;
  next_rule = plain.next_rule;
  next_server = plain.next_server;
  next_cache = plain.next_cache;
  rules = map listed_of plain.rules;
  servers = plain.servers;
  checks = plain.checks;
  pools = plain.pools;
  caches = plain.caches;
  outstanding = plain.outstanding;
  kept = plain.kept;
}

-- a state whose rules have the limiters of their terms, with no pass that no longer counts: each balancer's is one
pub record IsShown (plain : Plain) : Type 0 where
  pub own : All HasOwnLimiters plain.rules
  pub seen : seen_rules plain.moment plain.rules ≡ plain.rules

-- equal snapshots are of equal states
abbrev pub EqualSnapshotsEqualStates : Type 0
EqualSnapshotsEqualStates = (a b : Plain) → IsShown a → IsShown b → snapshot_of a ≡ snapshot_of b → a ≡ b
