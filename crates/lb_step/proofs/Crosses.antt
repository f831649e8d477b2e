-- Events and the balancer may go to another thread, and a snapshot may be shared with one.
use denote.Param.Send.{IsSend, IsSync, sendable}
use Rattle.std.proofs.Crossing.{crosses}
use Rattle.lb_cache.proofs.cached.AttachedCache.TheSendSync.{the_sync as attached_sync}
use Rattle.lb_cache.proofs.cached.Covered.TheSendSync.{the_field_send as covered_send}
use Rattle.lb_cache.proofs.cached.KeptReply.TheSendSync.{the_sync as kept_sync}
use Rattle.lb_cache.proofs.limits.MaxEntries.TheSendSync.{the_send as max_entries_send}
use Rattle.lb_cache.proofs.limits.MaxTtl.TheSendSync.{the_send as max_ttl_send}
use Rattle.lb_cache.proofs.limits.Shards.TheSendSync.{the_send as shards_send}
use Rattle.lb_cache.proofs.skips.Skips.TheSendSync.{the_send as skips_send}
use Rattle.lb_chain.specs.contracts.chain.Chain as Chain
use Rattle.lb_chain.specs.contracts.listed.Listed as Listed
use Rattle.lb_step.proofs.check.Check.TheSendSync.{the_sync as check_sync}
use Rattle.lb_step.proofs.check.CheckSpec.TheSendSync.{the_field_send as check_spec_send}
use Rattle.lb_step.proofs.timeout.Timeout.TheSendSync.{the_send as timeout_send}
use Rattle.lb_step.proofs.upstream.Upstream.TheSendSync.{the_send as upstream_send}
use Rattle.lb_step.specs.contracts.balancer.Balancer as Balancer
use Rattle.lb_step.specs.contracts.boxed.BoxedCommand as BoxedCommand
use Rattle.lb_step.specs.contracts.command.Command as Command
use Rattle.lb_step.specs.contracts.command.StatedRule as StatedRule
use Rattle.lb_step.specs.contracts.event.Event as Event
use Rattle.lb_step.specs.contracts.plain.Plain as Plain
use Rattle.lb_servers.proofs.ident.Ident.TheSendSync.{the_send as ident_send}
use Rattle.lb_servers.proofs.pool.Policy.TheSendSync.{the_field_send as policy_send}
use Rattle.lb_servers.proofs.pool.Pool.TheSendSync.{the_sync as pool_sync}
use Rattle.lb_servers.proofs.pool.PoolName.TheSendSync.{the_send as pool_name_send}
use Rattle.lb_servers.proofs.server.Mode.TheSendSync.{the_field_send as mode_send}
use Rattle.lb_servers.proofs.server.Server.TheSendSync.{the_sync as server_sync}
use Rattle.lb_table.proofs.entry.Waiting.TheSendSync.{the_sync as waiting_sync}
use Rattle.lb_terms.specs.contracts.term.CheckedTerm as CheckedTerm
use Rattle.lb_wire.proofs.addr.Origin.TheSendSync.{the_field_send as origin_send}
use Rattle.lb_wire.proofs.octets.Octets.TheSendSync.{the_send as octets_send}
use Rattle.lb_wire.proofs.transport.Lane.TheSendSync.{the_field_send as lane_send}

stated_rule_send : IsSend CheckedTerm.the_row → IsSend (StatedRule.the_field).row
stated_rule_send checked_send = search (sendable, crosses) depth 40 fits 10000

command_send : IsSend CheckedTerm.the_row → IsSend (Command.the_field).row
command_send checked_send =
    search (stated_rule_send, check_spec_send, timeout_send, covered_send, max_entries_send, max_ttl_send, shards_send, skips_send, ident_send, pool_name_send, policy_send, mode_send, sendable, crosses) depth 40 fits 10000

boxed_command_send : IsSend CheckedTerm.the_row → IsSend BoxedCommand.the_row
boxed_command_send checked_send = search (command_send, sendable, crosses) depth 40 fits 10000

pub event_send : IsSend CheckedTerm.the_row → IsSend (Event.the_field).row
event_send checked_send = search (boxed_command_send, origin_send, octets_send, lane_send, sendable, crosses) depth 40 fits 10000

pub balancer_send : IsSend Chain.the_row → IsSend Balancer.the_row
balancer_send chain_send = search (upstream_send, sendable, crosses) depth 40 fits 10000

pub plain_sync : IsSync Listed.the_row → IsSync Plain.the_row
plain_sync listed_sync = search (attached_sync, kept_sync, pool_sync, server_sync, check_sync, waiting_sync, sendable, crosses) depth 40 fits 10000
