-- The laws that the proofs share: a name up to its padding, a turn of the loop over the files, and what is shown of an image.
mod FieldSteps
mod LineSteps
pub mod Showing
