-- The words of a line of text, by the gaps between its boxes.
pub mod Members
pub mod Gaps
pub mod Small
pub mod Thresholds
pub mod Partings
pub mod Words
