pub mod Same
pub mod SameEvent
pub mod Admits
pub mod Admitted
pub mod Standing
pub mod Scene
pub mod Look
pub mod Registering
