-- What a call answers, in the paper's numbers: a type for each form of an answer, with its cases.
pub mod Answer
pub mod NamedAnswer
pub mod RenameAnswer
pub mod Amount
pub mod NamedAmount
pub mod Summary
pub mod Entry
pub mod Opened
