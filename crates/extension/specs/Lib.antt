-- A chain with one sector more.
pub mod Tip
pub mod Built
