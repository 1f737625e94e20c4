pub mod Codes
pub mod Extensions
pub mod Laws
pub mod Ledgers
pub mod Limits
pub mod Renewals
pub mod Resumptions
