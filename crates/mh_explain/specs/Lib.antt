pub mod Explanations
pub mod Near
pub mod Refused
pub mod Unread
