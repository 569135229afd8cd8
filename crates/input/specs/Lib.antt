-- The definitions that the contracts of `input` cite.
pub mod Filled
pub mod Mark
