-- The iterators over the blocks of a chain and over its places.
pub mod Walk
pub mod Ahead
