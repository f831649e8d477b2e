pub use Rattle.lb_program.specs.Checking
pub use Rattle.lb_program.specs.Faults
pub use Rattle.lb_program.specs.Replaying
pub use Rattle.lb_program_serve.specs.Serving
pub mod Program
