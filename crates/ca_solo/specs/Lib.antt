pub mod Stirs
pub mod Positions
pub mod Moves
pub mod Alone
pub mod Rounds
pub mod Seats
