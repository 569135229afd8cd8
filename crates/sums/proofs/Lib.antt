-- The laws of the sum, of chains and of a place entered; what a caller keeps a table by; and that the table is exact.
mod SumSteps
pub mod ChainSteps
mod Entering
pub mod TableLaws
pub mod Exact
