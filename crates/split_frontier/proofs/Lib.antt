mod Marks
mod Moves
mod Taking
mod Giving
mod Dealing
mod Passes
mod Named
mod Leases
mod Turns
mod InTurn
mod Ends
mod Counting
pub mod Working
