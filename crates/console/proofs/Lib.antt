-- What the proofs of the functions stand on: what an argument asks for, and the counts of the numbers.
mod Words
mod Numbers
mod Marks
mod Counts
