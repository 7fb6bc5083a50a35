-- Connected black pixels, the boxes of their components, and which of these are kept.
pub mod Connected
pub mod Boxes
pub mod Kept
pub mod Around
pub mod Runs
pub mod Groups
pub mod Scanning
pub use Rattle.page_runs.specs.Page
pub use Rattle.page_runs.specs.Packed
pub use Rattle.layout_geom.specs.Rectangles
pub mod Reaching
