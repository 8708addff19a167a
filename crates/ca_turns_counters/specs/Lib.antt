pub mod Adding
pub mod Turning
pub mod Apart
pub mod Working
