mod Handles
mod Pieces
mod Reaching
mod Sites
mod Sources
mod Switches
