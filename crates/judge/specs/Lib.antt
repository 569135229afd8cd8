-- The entries of the directories, and the marks of the judge's loop over the holders.
pub mod Entered
pub mod Claim
