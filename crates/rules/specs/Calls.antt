-- The calls, a file for each or for a pair.
pub mod Format
pub mod Summary
pub mod Entry
pub mod Read
pub mod Load
pub mod Listing
pub mod Create
pub mod Append
pub mod Overwrite
pub mod Protect
pub mod Store
pub mod Delete
pub mod Rename
pub mod Repair
pub mod Pack
