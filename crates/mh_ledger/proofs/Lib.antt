mod Extended
mod Held
mod Lessened
mod Resumed
mod Taken
