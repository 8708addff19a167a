pub mod Emit
pub mod Gos
pub mod Implements
pub mod InOrder
pub mod Layouts
pub mod Lowered
pub mod Splits
pub mod Views
