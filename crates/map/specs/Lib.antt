-- How far a search has come.
pub mod Search
