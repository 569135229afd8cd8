-- The laws that the proofs share.
mod DirectoryLaws
mod LabelSteps
mod FileLaws
mod IndexSteps
mod FileSteps
mod PackedLaws
