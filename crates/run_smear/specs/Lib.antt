-- The run-length smear of a page, and what a sweep over its rows knows of its columns.
pub mod Smear
pub mod Painted
pub mod Columns
pub mod Ready
pub mod Clipped
pub mod Stacked
