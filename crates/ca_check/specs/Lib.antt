pub mod Expansion
pub mod Worked
pub mod Order
pub mod TopsView
pub mod ScriptView
pub mod Choices
pub mod Again
pub mod Words
