-- What rectangles are, how they lie to one another, and their keys; and what holds of them all.
pub mod Sides
pub mod Rectangles
pub mod Keys
pub mod SameSides
pub mod PixelLaws
pub mod KeyLaws
pub mod BoxNumbers
pub mod NumberLists
