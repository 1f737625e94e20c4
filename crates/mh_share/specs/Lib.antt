pub mod Callers
pub mod Desks
pub mod Laws
pub mod Renewals
