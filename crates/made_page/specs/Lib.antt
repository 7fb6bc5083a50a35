-- The page of a seed: what is drawn, the blocks that the draws make, and the page of these blocks.
pub mod Draws
pub mod Blocks
pub mod Made
pub mod Few
