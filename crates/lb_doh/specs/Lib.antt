pub use Rattle.lb_wire.specs.Octets
pub use Rattle.lb_doh_message.specs.Response as HttpResponse
pub use Rattle.lb_loops_io.specs.Counts
pub use Rattle.lb_loops_io.specs.Stamps
pub use Rattle.lb_outbox.specs.Outbox
pub mod Waiting
pub mod Ticket
pub mod Next
pub mod Asking
