-- The definitions that the contracts of `sums` cite, and what was entered into a table, by which its exactness is said.
pub mod Sum
pub mod Table
pub mod History
pub mod Lent
