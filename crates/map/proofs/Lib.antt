-- The laws that the proofs share.
mod FreeSteps
mod BitLaws
mod HeldBytes
mod MapFilled
pub mod SearchLaws
