pub use Rattle.lb_wire.specs.Octets
pub use Rattle.lb_doh_message.specs.Request as HttpRequest
pub use Rattle.lb_doh.specs.Asking
pub mod Heads
pub mod Response
pub mod Answering
pub mod Closing
