mod Linking
mod Passing
mod ResolvedFilters
mod RetiredTrees
mod Serving
mod Unnamed
mod Worked
