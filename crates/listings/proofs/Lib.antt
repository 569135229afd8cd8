-- What stands in front of a page.
mod Parting
