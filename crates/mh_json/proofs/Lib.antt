mod Charges
mod Depths
mod FilterItems
mod Forms
mod Inputs
mod Loop
mod NoFloats
mod PlanData
mod ProblemPlaces
pub mod ProblemTests
mod Problems
mod Reached
mod Shapes
mod SharedPairs
mod SitesInOrder
