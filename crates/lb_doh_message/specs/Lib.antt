pub use Rattle.lb_wire.specs.Octets
pub use Rattle.lb_wire.specs.Reply as WireReply
pub mod Fault
pub mod Media
pub mod Form
pub mod Variable
pub mod Message
pub mod Request
pub mod Response
pub mod Laws
