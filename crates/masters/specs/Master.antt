-- What packing an image gives: how many bytes its packed form has, its number, or that there was no image.
use Rattle.std.specs.Prelude.{ℕ}

pub data Master : Type 0 where
  Packed : (count : ℕ) → Master
  Refused : (number : ℕ) → Master
  Unread : Master
