pub mod Display
pub mod Laws
pub mod Limits
pub mod Listed
pub mod Tests
pub mod Words
