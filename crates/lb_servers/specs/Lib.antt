pub mod Ident
pub mod Pool
pub mod Server
pub mod Spec
pub mod Fault
pub mod Ranks
pub mod Pick
pub mod Park
