-- What the lines of a page are, the grid as a problem to be searched, and the boxes of lines in which it is searched.
pub mod Lines
pub mod Problem
pub mod ProblemLaws
pub mod Bounds
pub mod Parts
pub mod GridLaws
pub mod Pages
pub mod Taken
