-- shared by several files: Window
pub use Rattle.lb_masks.specs.Mask
pub mod Order
pub mod Window
pub mod Moments
pub mod Buckets
pub mod Ticks
pub mod Limiter
pub mod Laws
