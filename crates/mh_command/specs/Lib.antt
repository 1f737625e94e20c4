pub mod Answers
pub mod CommandLine
pub mod Readings
pub mod Statuses
pub mod Streams
pub mod inner
