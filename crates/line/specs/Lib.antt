-- What a piece of text leaves in its buffer, and texts as bytes.
pub mod Laid
pub mod Letters
