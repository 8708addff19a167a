pub mod Members
pub mod Sources
pub mod Topics
pub mod FitLaws
pub mod KeyLaws
pub mod Listed
