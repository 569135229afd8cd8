-- What the loops of an index made anew go by.
pub mod Front
