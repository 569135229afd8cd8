-- The laws that the proofs share: the files of several indexes.
mod Counting
