pub mod Kind
pub mod Registries
pub mod Mixes
pub mod Marks
pub mod Publications
pub mod Registry
pub mod Needs
pub mod Gives
