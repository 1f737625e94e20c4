pub mod AnswersGiven
mod Branches
mod EntersLeading
pub mod Extending
mod FilterRuns
mod FilterWalks
pub mod Invocations
mod LawfulTrees
pub mod QuietCalls
pub mod QuietTrees
pub mod SiteRuns
pub mod Walks
