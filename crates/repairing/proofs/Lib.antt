-- The laws that the proofs share: repair's number by its tests, what stands while the indexes are written, and what is written and listed in the end.
mod RepairSteps
mod Going
mod RepairLaws
