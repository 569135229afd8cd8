-- A program spread over free sectors, and what is written of it before it is entered.
pub mod Spread
pub mod Program
