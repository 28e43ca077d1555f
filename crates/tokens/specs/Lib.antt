pub mod Marks
pub mod Pieces
pub mod Numbering
pub mod Senses
pub mod Tokens
pub mod Items
