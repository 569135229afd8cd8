-- What the drive is like.
pub mod Geometry
