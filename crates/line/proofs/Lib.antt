-- Pieces laid one after another, and a turn of the loop over the digits of a number.
pub mod LaidLaws
mod DigitSteps
