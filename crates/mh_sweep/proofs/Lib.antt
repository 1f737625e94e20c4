pub mod Numbering
pub mod Amounts
pub mod Steps
pub mod Halves
pub mod Spans
pub mod Ranges
