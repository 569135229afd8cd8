-- The definitions that the contracts of `belt` cite.
pub mod Line
