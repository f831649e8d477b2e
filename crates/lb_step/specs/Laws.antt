-- What the lists of a plain state keep true.
use Rattle.std.specs.Prelude.{◌+◌, ◌<◌}
use Rattle.std.specs.List.{All, AllByRecursion}
use Rattle.lb_chain.specs.Chain.{AreRules}
use Rattle.lb_servers.specs.Park.{AreBackends}
use Rattle.lb_table.specs.Table.{AreWaiting}
use Rattle.lb_cache.specs.Caches.{AreKept}
use Rattle.lb_step.specs.Plain.{Plain, chain_of, upstreams_of}
use Rattle.lb_step.specs.Upstream.{AreNumbered, ByNumber, IsChecked, backends_of, caches_of}

-- what each balancer keeps true: its servers stand by number, each number once and below the next; each has one health check,
-- and its mark is what its health says
pub record AreMarked (plain : Plain) : Type 0 where
  pub numbers : ByNumber plain.servers
  pub below : AllByRecursion (λ s. s.id.0 < plain.next_server) plain.servers
  pub checks : IsChecked plain.servers plain.checks

-- what the lists of each balancer keep true: the rules have numbers from 1 on and below the next, no number twice, and there are at
-- most 4,096 with at most 16 limiters; the passes of each limiter are by source, IPv4 first and then by octets, and then by moment, no
-- source has more of them than the rate, and each is later than 1,000 milliseconds before the moment; servers and health checks
-- are as above; no two servers have one name, there are at most 256, each in 1 to 8 pools that are there, in each once; the first
-- pool is the default pool, no two have one name or one cache, there are at most 64; each attached cache has a number below the next; the outstanding queries are by deadline, those of one deadline in the
-- order in which they were sent, no two at one server, lane and ID; and the caches are by number, the kept replies by cache and
-- key, no two of one cache and key, no more than the cache keeps at most, each of an attached cache
pub record AreLists (plain : Plain) : Type 0 where
  pub rules : AreRules (chain_of plain)
  pub passes : All (λ n. All (λ l. All (λ pass. plain.moment < pass.moment + 1000) l.passes) n.limits) plain.rules
  pub servers : AreMarked plain
  pub backends : AreBackends (backends_of (upstreams_of plain))
  pub numbered : AreNumbered plain.next_cache plain.caches
  pub outstanding : AreWaiting plain.outstanding
  pub kept : AreKept (caches_of (upstreams_of plain))
