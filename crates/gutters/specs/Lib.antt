-- Which rectangles of white space are gutters between columns of text.
pub mod Beside
pub mod Gutters
