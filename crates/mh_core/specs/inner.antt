-- Definitions that only the clauses of private functions use: no promise asks for them to be read.
pub mod Tables
