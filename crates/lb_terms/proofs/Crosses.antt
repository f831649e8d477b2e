-- Terms may cross threads. A term holds terms, so the lemmas of its own recursion are named: no lemma of the type is written by itself.
use denote.Param.Send.{IsSend, IsSync, sendable}
use Rattle.std.proofs.Crossing.{crosses}
use Rattle.lb_masks.proofs.group.Group.TheSendSync.{the_send as group_send, the_sync as group_sync}
use Rattle.lb_suffix.proofs.index.SuffixIndex.TheSendSync.{the_send as index_send, the_sync as index_sync}
use Rattle.lb_terms.proofs.term.Term.TheLaws.TheKnot.{send-Term, sync-Term}
use Rattle.lb_terms.specs.contracts.names.Names as Names
use Rattle.lb_terms.specs.contracts.term.CheckedTerm as CheckedTerm
use Rattle.lb_terms.specs.contracts.term.Term as Term

names_send : IsSend (Names.the_field).row
names_send = search (index_send, sendable, crosses) depth 40 fits 10000

names_sync : IsSync (Names.the_field).row
names_sync = search (index_sync, sendable, crosses) depth 40 fits 10000

term_send : IsSend (Term.the_field).row
term_send = search (send-Term, names_send, group_send, sendable, crosses) depth 40 fits 10000

term_sync : IsSync (Term.the_field).row
term_sync = search (sync-Term, names_sync, group_sync, sendable, crosses) depth 40 fits 10000

pub checked_send : IsSend CheckedTerm.the_row
checked_send = search (term_send, sendable, crosses) depth 40 fits 10000

pub checked_sync : IsSync CheckedTerm.the_row
checked_sync = search (term_sync, sendable, crosses) depth 40 fits 10000
