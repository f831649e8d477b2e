-- shared by several files: Rule
pub mod Rule
pub mod Outbox
