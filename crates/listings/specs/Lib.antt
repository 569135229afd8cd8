-- The definitions that the contracts of `listings` cite.
pub mod Page
