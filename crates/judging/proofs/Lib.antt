pub mod Mapped
pub mod Finding
pub mod Walks
pub mod Judgements
pub mod TestTables
