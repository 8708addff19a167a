pub mod Stages
pub mod Props
pub mod Tasks
pub mod Seeds
pub mod Machines
pub mod View
pub mod MachineLaws
