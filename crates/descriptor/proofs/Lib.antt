-- The laws that the iterators' proofs, and those of what goes by them, share.
pub mod Blocks
pub mod Ahead
pub mod Places
pub mod Order
