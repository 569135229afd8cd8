-- The definitions that the contracts of `mend` cite.
pub mod Mending
pub mod Line
