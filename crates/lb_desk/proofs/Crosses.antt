-- A desk may be shared by threads, and a seat may go to one.
use denote.Param.Send.{IsSend, IsSync, sendable}
use denote.RattleType.{RattleType}
use Rattle.std.proofs.Crossing.{crosses}
use Rattle.std.proofs.sync.ledger.Book.TheSendSync.{the_send as calls_send}
use Rattle.std.proofs.sync.ledger.Share.TheSendSync.{the_send as share_send}
use Rattle.std.specs.declared.sync.ledger.Ledger as Ledger
use Rattle.lb_step.proofs.answer.Answer.TheSendSync.{the_field_send as answer_send}
use Rattle.lb_step.proofs.tally.Tally.TheSendSync.{the_field_send as tally_send}
use Rattle.lb_step.specs.contracts.balancer.Balancer as Balancer
use Rattle.lb_step.specs.contracts.event.Event as Event
use Rattle.lb_step.specs.contracts.plain.Plain as Plain
use Rattle.lb_desk.proofs.spare.AnswerRoom.TheSendSync.{the_send as room_send}
use Rattle.lb_desk.specs.contracts.book.Book as Book
use Rattle.lb_desk.specs.contracts.desk.Desk as Desk
use Rattle.lb_desk.specs.contracts.entry.LogEntry as LogEntry
use Rattle.lb_desk.specs.contracts.entry.Receipt as Receipt
use Rattle.lb_desk.specs.contracts.seat.Seat as Seat
use Rattle.lb_desk.specs.contracts.spare.EntryRoom as EntryRoom
use Rattle.lb_desk.specs.declared.naming.Naming as Naming

entry_send : IsSend (Event.the_field).row → IsSend LogEntry.the_row
entry_send event_send = search (answer_send, sendable, crosses) depth 40 fits 10000

receipt_send : IsSend (Event.the_field).row → IsSend Receipt.the_row
receipt_send event_send = search (answer_send, sendable, crosses) depth 40 fits 10000

spare_send : IsSend (Event.the_field).row → IsSend EntryRoom.the_row
spare_send event_send = search (sendable, crosses) depth 40 fits 10000

module _ (T : RattleType) (n : Naming.Ghosts T.Denot) (l : Ledger.Ghosts T.Denot) where
  book_send : IsSend Balancer.the_row → IsSend (Event.the_field).row → IsSend (Book.the_row T n l)
  book_send balancer_send event_send = search (entry_send, spare_send, calls_send, tally_send, sendable, crosses) depth 40 fits 10000

  pub desk_sync : IsSend Balancer.the_row → IsSend (Event.the_field).row → IsSync Plain.the_row → IsSync (Desk.the_row T n l)
  desk_sync balancer_send event_send plain_sync = search (book_send, sendable, crosses) depth 40 fits 10000

  pub seat_send : IsSend (Event.the_field).row → IsSend (Seat.the_row T n l)
  seat_send event_send = search (receipt_send, room_send, share_send, sendable, crosses) depth 40 fits 10000
