-- The cells that boxes fall into where they are cut at white bands.
pub mod Bands
pub mod Widest
pub mod Cells
