pub mod Places
pub mod History
pub mod Views
pub mod OneHistory
pub mod Lines
pub mod Steps
pub mod Hands
pub mod Lending
