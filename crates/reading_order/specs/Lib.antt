-- Reading order, its two rules, and areas.
pub mod Rules
pub mod Lexical
pub mod Orders
pub mod Cycles
pub mod Fronts
pub mod Tables
pub mod Looking
pub mod Steps
pub mod Waves
pub mod Groups
pub mod Shown
pub mod Answers
pub mod Areas
pub mod Reach
pub mod Sweeps
