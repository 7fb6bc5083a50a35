-- What bytes spell a page, what is wrong with bytes that spell none, and what a reader does with both.
pub use Rattle.packed_rows.specs.Page
pub mod Spelling
pub mod Fault
pub mod Images
pub mod Given
pub mod Feed
pub mod Reading
pub mod Header
pub mod Raster
pub mod Plain
pub mod Tail
pub mod Rows
pub mod Held
pub mod Reader
