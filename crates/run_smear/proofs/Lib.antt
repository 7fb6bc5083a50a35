-- Lemmas on painted rows, on fills and on swept columns.
pub mod Blackening
pub mod RowSmear
pub mod Filling
pub mod Sweeping
pub mod Bands
pub mod Unique
pub mod Stacking
