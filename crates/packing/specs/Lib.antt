-- The walk through the files of all indexes.
pub mod Walk
