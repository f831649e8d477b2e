-- shared by several files: Reading, Results, Routes, Snapshot, Step
pub use Rattle.lb_name.specs.Name
pub use Rattle.lb_wire.specs.Octets
pub use Rattle.lb_wire.specs.BigEndian
pub use Rattle.lb_wire.specs.Numbers
pub use Rattle.lb_wire.specs.Flags
pub use Rattle.lb_wire.specs.Record
pub use Rattle.lb_wire.specs.Opt
pub use Rattle.lb_wire.specs.Message
pub use Rattle.lb_wire.specs.Question
pub use Rattle.lb_wire.specs.Query as WireQuery
pub use Rattle.lb_wire.specs.Answer as MadeAnswer
pub use Rattle.lb_wire.specs.Reply as WireReply
pub use Rattle.lb_wire.specs.Belongs
pub use Rattle.lb_chain.specs.Walk
pub use Rattle.lb_chain.specs.Listed
pub use Rattle.lb_chain.specs.Edits
pub use Rattle.lb_chain.specs.Counting
pub use Rattle.lb_chain.specs.Seen
pub use Rattle.lb_servers.specs.Pool
pub use Rattle.lb_servers.specs.Server
pub use Rattle.lb_servers.specs.Pick
pub use Rattle.lb_servers.specs.Park
pub use Rattle.lb_health.specs.Health as HealthOfOne
pub use Rattle.lb_wire.specs.Key
pub use Rattle.lb_wire.specs.Aging
pub use Rattle.lb_cache.specs.Reply as CacheReply
pub use Rattle.lb_cache.specs.Question as CacheQuestion
pub use Rattle.lb_cache.specs.Cache as CacheOfOne
pub use Rattle.lb_cache.specs.Caches
pub use Rattle.lb_table.specs.Place
pub use Rattle.lb_table.specs.Entry
pub use Rattle.lb_table.specs.Table
pub mod Answer
pub mod Upstream
pub mod Plain
pub mod Forward
pub mod Look
pub mod Query
pub mod Lifetime
pub mod Reply
pub mod Expiry
pub mod Health
pub mod Edit
pub mod Reading
pub mod Routes
pub mod Step
pub mod Snapshot
pub mod Laws
pub mod Results
pub mod Noted
pub mod Counts
pub mod CountsByNumber
