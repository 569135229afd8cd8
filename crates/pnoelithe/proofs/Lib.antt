-- The laws of the crossing.
mod Crossings
