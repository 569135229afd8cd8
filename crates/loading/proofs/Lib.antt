-- The laws of a load.
mod LoadLaws
mod Pieces
