-- A page of which some first rows are there, and what it becomes that takes its rows.
pub mod Runs
pub mod Packed
pub mod Black
pub mod Walk
pub mod Rows
pub use Rattle.packed_rows.specs.Page
pub use Rattle.pbm_reader.specs.Given
