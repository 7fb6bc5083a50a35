-- What the greatest white rectangle of a page is, its greedy cover, and the boxes in which a rectangle is searched.
pub mod Admissible
pub mod Bars
pub mod Cover
pub mod Index
pub mod Masks
pub mod Problem
pub mod Regions
pub mod WhiteLaws
