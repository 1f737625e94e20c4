mod FilterKinds
mod Sound
mod WorkedTrees
