pub mod Slices
pub mod Counting
pub mod Blacks
pub mod Pushing
pub mod Held
pub mod RowRuns
pub mod RowWords
pub mod Walking
