-- The walks over the numbers of an index, and over the directories.
pub mod Numbers
pub mod Directories
