-- Counts by the numbers of rules, servers and caches.
use Rattle.std.specs.Prelude.{◌≡◌, ℕ, Option, None, Some, option_map}
use Rattle.lb_tallies.specs.Tallies.{tally_of, AreSame, Changes}
use Rattle.lb_wire.specs.declared.ids.CacheId.{CacheId}
use Rattle.lb_wire.specs.declared.ids.ServerId.{ServerId}
use Rattle.lb_step.specs.declared.answer.Answer.{Answer}
use Rattle.lb_step.specs.declared.answer.Answer.TheVariants.{Local, Forward, Deliver, Expired, Edited}
use Rattle.lb_step.specs.declared.answer.LocalReason.TheVariants.{Hit}
use Rattle.lb_step.specs.declared.answer.Note.{Note}
use Rattle.lb_step.specs.declared.answer.Note.TheVariants.{RuleRemoved, ServerRemoved, CacheDetached}
use Rattle.lb_step.specs.declared.counts_by_number.CountsByNumber.{CountsByNumber}
use Rattle.lb_step.specs.declared.counts_by_number.CacheCounts.{CacheCounts}
use Rattle.lb_step.specs.declared.counts_by_number.ServerCounts.{ServerCounts}
use Rattle.lb_step.specs.declared.noted.Noted.{Noted}

-- the counts of a server, and of a cache
abbrev pub server_counts : CountsByNumber → ServerId → ServerCounts
server_counts by server = record { forwarded = tally_of server.0 by.forwarded; replied = tally_of server.0 by.replied; expired = tally_of server.0 by.expired }

abbrev pub cache_counts : CountsByNumber → CacheId → CacheCounts
cache_counts by cache = record { asked = tally_of cache.0 by.asked; hit = tally_of cache.0 by.hit }

-- each count is 0
pub record AreNone (by : CountsByNumber) : Type 0 where
  pub ended : (id : ℕ) → tally_of id by.ended ≡ 0
  pub forwarded : (id : ℕ) → tally_of id by.forwarded ≡ 0
  pub replied : (id : ℕ) → tally_of id by.replied ≡ 0
  pub expired : (id : ℕ) → tally_of id by.expired ≡ 0
  pub asked : (id : ℕ) → tally_of id by.asked ≡ 0
  pub hit : (id : ℕ) → tally_of id by.hit ≡ 0

-- the rule, the server or the cache that was removed, as a note tells
abbrev pub rule_removed : Note → Option ℕ
rule_removed (RuleRemoved rule) = Some rule.0
rule_removed _ = None

abbrev pub server_removed : Note → Option ℕ
server_removed (ServerRemoved server) = Some server.0
server_removed _ = None

abbrev pub cache_removed : Note → Option ℕ
cache_removed (CacheDetached cache) = Some cache.0
cache_removed _ = None

-- the same of an answer
abbrev pub by_note : (Note → Option ℕ) → Answer → Option ℕ
by_note told (Edited note) = told note
by_note told _ = None

-- the server that a query was sent to, that a reply came from, and that gave none in time; the cache that answered
abbrev pub forwarded_to : Answer → Option ℕ
forwarded_to (Forward server lane id bytes) = Some server.0
forwarded_to _ = None

abbrev pub replied_by : Answer → Noted → Option ℕ
replied_by (Deliver origin bytes kept) noted = option_map (λ s. s.server.0) noted.served
replied_by _ noted = None

abbrev pub expired_at : Answer → Noted → Option ℕ
expired_at (Expired origin bytes) noted = option_map (λ s. s.server.0) noted.served
expired_at _ noted = None

-- the rule that ended the walk, whatever its verdict
abbrev pub ended_by : Answer → Noted → Option ℕ
ended_by answer noted = option_map (λ r. r.0) noted.rule

-- the cache that was asked
abbrev pub asked_of : Answer → Noted → Option ℕ
asked_of answer noted = option_map (λ c. c.0) noted.cache

-- the server that a query was sent to
abbrev pub sent_to : Answer → Noted → Option ℕ
sent_to answer noted = forwarded_to answer

abbrev pub hit_in : Answer → Noted → Option ℕ
hit_in (Local bytes Hit) noted = option_map (λ c. c.0) noted.cache
hit_in _ noted = None

-- each count after a step with this answer, which noted this
pub record AreCounted (answer : Answer) (noted : Noted) (old new : CountsByNumber) : Type 0 where
  pub ended : Changes (by_note rule_removed answer) (option_map (λ r. r.0) noted.rule) old.ended new.ended
  pub forwarded : Changes (by_note server_removed answer) (forwarded_to answer) old.forwarded new.forwarded
  pub replied : Changes (by_note server_removed answer) (replied_by answer noted) old.replied new.replied
  pub expired : Changes (by_note server_removed answer) (expired_at answer noted) old.expired new.expired
  pub asked : Changes (by_note cache_removed answer) (option_map (λ c. c.0) noted.cache) old.asked new.asked
  pub hit : Changes (by_note cache_removed answer) (hit_in answer noted) old.hit new.hit

-- each count after a command that told this
pub record AreForgotten (note : Note) (old new : CountsByNumber) : Type 0 where
  pub ended : Changes (rule_removed note) None old.ended new.ended
  pub forwarded : Changes (server_removed note) None old.forwarded new.forwarded
  pub replied : Changes (server_removed note) None old.replied new.replied
  pub expired : Changes (server_removed note) None old.expired new.expired
  pub asked : Changes (cache_removed note) None old.asked new.asked
  pub hit : Changes (cache_removed note) None old.hit new.hit

-- each count after this answer to what was noted so, before the walk is counted
pub record AreAnswered (answer : Answer) (noted : Noted) (old new : CountsByNumber) : Type 0 where
  pub ended : Changes (by_note rule_removed answer) None old.ended new.ended
  pub forwarded : Changes (by_note server_removed answer) (forwarded_to answer) old.forwarded new.forwarded
  pub replied : Changes (by_note server_removed answer) (replied_by answer noted) old.replied new.replied
  pub expired : Changes (by_note server_removed answer) (expired_at answer noted) old.expired new.expired
  pub asked : Changes (by_note cache_removed answer) None old.asked new.asked
  pub hit : Changes (by_note cache_removed answer) (hit_in answer noted) old.hit new.hit

-- each count after a walk of which this was noted
pub record AreWalked (noted : Noted) (old new : CountsByNumber) : Type 0 where
  pub ended : Changes None (option_map (λ r. r.0) noted.rule) old.ended new.ended
  pub forwarded : AreSame old.forwarded new.forwarded
  pub replied : AreSame old.replied new.replied
  pub expired : AreSame old.expired new.expired
  pub asked : Changes None (option_map (λ c. c.0) noted.cache) old.asked new.asked
  pub hit : AreSame old.hit new.hit
