pub mod Systems
pub mod SystemLaws
pub mod Tasks
pub mod TaskLaws
