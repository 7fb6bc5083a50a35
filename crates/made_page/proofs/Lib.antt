pub mod Drawing
pub mod Within
pub mod Pixels
pub mod Rows
pub mod Connecting
pub mod Counting
