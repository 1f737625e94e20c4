pub mod Answers
pub mod Entered
pub mod Frames
pub mod Numbers
pub mod Quiet
pub mod inner
