-- shared by several files: Codes, Selector, Sets
pub use Rattle.lb_name.specs.Name
pub use Rattle.lb_masks.specs.Bits
pub use Rattle.lb_masks.specs.Mask
pub use Rattle.lb_limits.specs.Window
pub mod Fault
pub mod Selector
pub mod Codes
pub mod Sets
pub mod Check
pub mod Truth
pub mod Limiters
pub mod Names
