-- The law of entering that the calls with a new file share, and those of a name that is read and of numbers put in order.
pub mod Entered
mod Named
mod Settling
mod Ordering
