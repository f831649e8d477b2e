pub use Rattle.lb_step.specs.Answer
pub use Rattle.lb_step.specs.Counts
pub use Rattle.lb_step.specs.Noted
pub use Rattle.lb_step.specs.Plain
pub use Rattle.lb_step.specs.Reading
pub use Rattle.lb_step.specs.Routes
pub use Rattle.lb_step.specs.Snapshot
pub use Rattle.lb_step.specs.Step
pub use Rattle.lb_core.specs.Counts as RunCounts
pub use Rattle.lb_core.specs.Provenance
pub use Rattle.lb_core.specs.Runs
pub mod Fault
pub mod Entry
pub mod Seat
pub mod Book
pub mod Desk
