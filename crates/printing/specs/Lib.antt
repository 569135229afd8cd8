-- The definitions that the contracts of `printing` cite.
pub mod Output
