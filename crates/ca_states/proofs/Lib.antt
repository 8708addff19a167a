pub mod PairLaws
pub mod RowLaws
pub mod SlotLaws
pub mod StandingLaws
pub mod TextLaws
pub mod Sending
pub mod Calling
