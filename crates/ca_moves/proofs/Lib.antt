pub mod Agreeing
pub mod Twins
pub mod Moved
pub mod Doing
