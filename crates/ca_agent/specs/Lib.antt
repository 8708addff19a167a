pub mod Agents
pub mod Seeds
