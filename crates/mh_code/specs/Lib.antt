pub mod Height
pub mod Laws
pub mod PieceOf
pub mod Prepared
pub mod Routine
pub mod RoutineOf
pub mod Rows
pub mod inner
