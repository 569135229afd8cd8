-- The laws that the leaves' proofs share.
pub mod Differing
pub mod DirectoryLaws
pub mod Equal
pub mod IndexLaws
pub mod NumberLaws
pub mod Yields
