pub mod Display
pub mod Laws
pub mod Plans
pub mod inner
