pub mod Causes
pub mod Nodes
pub mod Queue
pub mod Queued
pub mod Readings
pub mod Stored
pub mod Timers
pub mod Tree
