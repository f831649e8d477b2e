pub use Rattle.lb_wire.specs.Reply
pub mod Health
pub mod Probes
