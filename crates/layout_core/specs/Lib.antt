-- What a run makes of the pages of an input, and how it ends.
pub mod Numbering
pub mod WordRows
pub mod ShownCells
pub mod ShownBlocks
pub mod Layouts
pub mod Found
pub mod Run
pub mod Owed
pub mod Refused
pub mod RefusalLines
pub mod Status
pub mod Reading
pub mod Words
pub mod Unique
