-- The definitions that the contracts of `masters` cite.
pub mod Master
pub mod Packed
pub mod Line
