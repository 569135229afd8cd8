-- The laws that the proofs share: a turn of each loop, said of the definitions, and what the marks mean. Repair shares those of the walks over the indexes and their numbers, of the tests that it has too, and of the claims.
pub mod IndexSteps
pub mod DirectorySteps
mod ChainSteps
mod MarkLaws
mod ClaimSteps
pub mod VerdictSteps
pub mod ClaimLaws
