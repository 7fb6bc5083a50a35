-- Lemmas of the search for the best line and of the greedy list.
pub mod Heights
pub mod Stretches
pub mod Reaching
pub mod Columns
pub mod Sums
pub mod Singles
pub mod Bounding
pub mod Counted
pub mod Ranges
pub mod Steps
pub mod Rounding
pub mod Taking
pub mod Rising
pub mod Unique
