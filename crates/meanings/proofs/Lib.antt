pub mod Queues
pub mod Follows
pub mod Earliest
pub mod Closings
pub mod Windows
pub mod WindowCodes
