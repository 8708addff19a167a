pub mod Roles
pub mod Sealed
pub mod Once
pub mod Users
pub mod Typed
pub mod SoleUsers
pub mod HiddenLaw
