-- The proofs of what specs/ states.
pub mod Names
mod Computed
pub mod Bench
pub mod Formatting
mod Filed
pub mod Lines
mod Replacing
mod Taking
mod Touched
pub mod Protects
pub mod Overwrites
pub mod Appends
mod NewFile
mod Pieces
mod Entering
pub mod Creates
pub mod Stores
pub mod Deletes
pub mod Renames
mod Agreeing
mod Mending
mod Deciding
mod Faults
mod Opening
mod Carried
pub mod Progress
mod Refusals
mod Shown
pub mod Ours
pub mod Demand2
pub mod Unique
mod PackedSectors
mod PackedSound
mod PackedOne
pub mod Demand3
pub mod Complete
pub mod Rules
pub mod Editions
pub mod Lengths
mod Cutting
mod Between
mod Resuming
pub mod Stop
pub mod WrongStop
pub mod StoredLoads
pub mod Wrong
pub mod WrongPacking
