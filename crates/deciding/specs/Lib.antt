pub mod Questions
pub mod Printed
pub mod Answers
pub mod AnswerLaws
