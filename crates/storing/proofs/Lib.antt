-- The laws that the proofs share.
mod Spreading
mod Laying
mod Programming
mod StoreLaws
