mod Items
mod Names
mod RefusedLines
mod Unreads
