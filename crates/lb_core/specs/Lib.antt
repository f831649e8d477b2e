-- shared by several files: Counts, CountsByNumber, Provenance, Snapshot
pub use Rattle.lb_wire.specs.BigEndian
pub use Rattle.lb_wire.specs.Message
pub use Rattle.lb_wire.specs.Query as WireQuery
pub use Rattle.lb_chain.specs.Walk
pub use Rattle.lb_health.specs.Health as HealthOfOne
pub use Rattle.lb_table.specs.Place
pub use Rattle.lb_table.specs.Table
pub use Rattle.lb_cache.specs.Caches
pub use Rattle.lb_tallies.specs.Tallies
pub use Rattle.lb_step.specs.Answer
pub use Rattle.lb_step.specs.Plain
pub use Rattle.lb_step.specs.Upstream
pub use Rattle.lb_step.specs.Forward
pub use Rattle.lb_step.specs.Look
pub use Rattle.lb_step.specs.Query
pub use Rattle.lb_step.specs.Lifetime
pub use Rattle.lb_step.specs.Reading
pub use Rattle.lb_step.specs.Routes
pub use Rattle.lb_step.specs.Step
pub use Rattle.lb_step.specs.Noted
pub use Rattle.lb_step.specs.Snapshot as StepSnapshot
pub use Rattle.lb_step.specs.Laws as StepLaws
pub use Rattle.lb_step.specs.Results
pub use Rattle.lb_step.specs.Counts as StepCounts
pub use Rattle.lb_step.specs.CountsByNumber as StepCountsByNumber
pub mod Provenance
pub mod Runs
pub mod Snapshot
pub mod Laws
pub mod Counts
pub mod CountsByNumber
