-- How values cross to C.
pub mod Crossing
