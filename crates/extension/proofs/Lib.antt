-- The laws of a tip, and of a chain that is built.
pub mod Tips
pub mod Building
