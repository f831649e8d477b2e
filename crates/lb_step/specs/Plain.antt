-- The plain state of the balancer.
use Rattle.std.specs.Prelude.{ℕ, max, List, []}
use Rattle.lb_chain.specs.declared.numbered.Numbered.{Numbered}
use Rattle.lb_chain.specs.Edits.{Rules}
use Rattle.lb_chain.specs.Seen.{seen_rules}
use Rattle.lb_servers.specs.declared.pool.Pool.{Pool}
use Rattle.lb_servers.specs.declared.server.Server.{Server}
use Rattle.lb_table.specs.declared.entry.Waiting.{Waiting}
use Rattle.lb_cache.specs.declared.cached.AttachedCache.{AttachedCache}
use Rattle.lb_cache.specs.declared.cached.KeptReply.{KeptReply}
use Rattle.lb_step.specs.declared.check.Check.{Check}
use Rattle.lb_step.specs.Upstream.{Upstreams, no_upstreams}

-- the latest moment told, and how long a query waits for its reply, in milliseconds; the next rule, server and cache
-- numbers (2^64 once all are given); the rules in their order, each with the passes of its limiters that count at the
-- moment: by limiter, then masked address (IPv4 first, by octets), then moment; the servers, their health checks, the pools and
-- the attached caches, by number, the default pool first; the outstanding queries by deadline, those of one deadline in the
-- order in which they were sent; and the kept replies by cache, then key (datagrams first, then by octets), at most one for a
-- cache and key
pub record Plain : Type 0 where
  pub moment : ℕ
  pub timeout : ℕ
  pub next_rule : ℕ
  pub next_server : ℕ
  pub next_cache : ℕ
  pub rules : List Numbered
  pub servers : List Server
  pub checks : List Check
  pub pools : List Pool
  pub caches : List AttachedCache
  pub outstanding : List Waiting
  pub kept : List KeptReply

-- the plain state of a chain and of what stands upstream, at a moment
abbrev pub plain_of : ℕ → Rules → Upstreams → Plain
plain_of moment chain ups = record {
  moment = moment;
  timeout = ups.timeout;
  next_rule = chain.next;
  next_server = ups.next_server;
  next_cache = ups.next_cache;
  rules = seen_rules moment chain.rules;
  servers = ups.servers;
  checks = ups.checks;
  pools = ups.pools;
  caches = ups.caches;
  outstanding = ups.outstanding;
  kept = ups.kept;
}

-- at first: moment 0, no rule, no server, the default pool, and nothing outstanding or kept; the first rule, server and cache
-- will have number 1
abbrev pub empty : Plain
empty = record {
  moment = 0;
  timeout = no_upstreams.timeout;
  next_rule = 1;
  next_server = 1;
  next_cache = 1;
  rules = [];
  servers = [];
  checks = [];
  pools = no_upstreams.pools;
  caches = [];
  outstanding = [];
  kept = [];
}

-- the chain of a plain state, and another one in its place
abbrev pub chain_of : Plain → Rules
chain_of plain = record { next = plain.next_rule; moment = plain.moment; rules = plain.rules }

abbrev pub with_chain : Rules → Plain → Plain
with_chain chain plain = record plain { next_rule = chain.next; rules = seen_rules plain.moment chain.rules }

-- what stands upstream of a plain state, and another in its place
abbrev pub upstreams_of : Plain → Upstreams
upstreams_of plain = record {
  timeout = plain.timeout;
  next_server = plain.next_server;
  next_cache = plain.next_cache;
  servers = plain.servers;
  checks = plain.checks;
  pools = plain.pools;
  caches = plain.caches;
  outstanding = plain.outstanding;
  kept = plain.kept;
}

abbrev pub with_upstreams : Upstreams → Plain → Plain
with_upstreams ups plain = record plain {
  timeout = ups.timeout;
  next_server = ups.next_server;
  next_cache = ups.next_cache;
  servers = ups.servers;
  checks = ups.checks;
  pools = ups.pools;
  caches = ups.caches;
  outstanding = ups.outstanding;
  kept = ups.kept;
}

-- the moment is the later of an event's and the last one; passes that no longer count are gone
abbrev pub at_plain : ℕ → Plain → Plain
at_plain now plain = record plain { moment = max plain.moment now; rules = seen_rules (max plain.moment now) plain.rules }
