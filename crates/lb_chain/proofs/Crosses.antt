-- The chain may go to another thread, and its listed rules may be shared with one. The toolchain's own lemma of a type of this crate (`TheSendSync`) has no
-- name where the crate's tests are proved.
use denote.Param.Send.{IsSend, IsSync, sendable}
use Rattle.std.proofs.Crossing.{crosses}
use Rattle.lb_masks.proofs.index.MaskIndex.TheSendSync.{the_send as masks_send}
use Rattle.lb_suffix.proofs.index.SuffixIndex.TheSendSync.{the_send as names_send}
use Rattle.lb_limits.proofs.limiter.Limiter.TheSendSync.{the_send as limiter_send}
use Rattle.lb_chain.specs.contracts.chain.Chain as Chain
use Rattle.lb_chain.specs.contracts.limiters.Limiters as Limiters
use Rattle.lb_chain.specs.contracts.listed.Listed as Listed
use Rattle.lb_chain.specs.contracts.offers.Offers as Offers
use Rattle.lb_terms.specs.contracts.term.CheckedTerm as CheckedTerm

limiters_send : IsSend Limiters.the_row
limiters_send = search (limiter_send, sendable, crosses) depth 40 fits 10000

offers_send : IsSend (Offers.the_field).row
offers_send = search (names_send, masks_send, sendable, crosses) depth 40 fits 10000

pub chain_send : IsSend CheckedTerm.the_row → IsSend Chain.the_row
chain_send checked_send = search (limiters_send, offers_send, sendable, crosses) depth 40 fits 10000

pub listed_sync : IsSync CheckedTerm.the_row → IsSync Listed.the_row
listed_sync checked_sync = search (sendable, crosses) depth 40 fits 10000
