pub mod Questions
pub mod Lines
pub mod Judging
pub mod Opening
pub mod OneJudgement
pub mod OneAnswer
pub mod FirstBytes
pub mod AnswerLaws
