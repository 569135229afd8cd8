-- The law that belongs to no one function.
mod Outputs
