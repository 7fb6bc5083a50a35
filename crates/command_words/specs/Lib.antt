-- The words of a command line, and the plan that they have.
pub mod Items
pub mod Values
pub mod Plans
pub mod Strays
pub mod Commands
pub mod Givens
