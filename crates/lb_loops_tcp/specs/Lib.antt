-- shared by several files: Ends, Goes, Lines, Steps, World
pub mod Links
pub mod Goes
pub mod World
pub mod Lines
pub mod Turn
pub mod Steps
pub mod Ends
