-- The definitions that the contracts of `console` cite.
pub mod Name
pub mod Mark
pub mod Ground
pub mod Tally
pub mod Options
