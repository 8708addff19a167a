pub mod AnswerLaws
pub mod Sending
