-- Lemmas of the search for the greatest white rectangle and of the greedy cover.
pub mod Mapped
pub mod Choosing
pub mod Cutting
pub mod Masking
pub mod Steps
pub mod Covering
pub mod Barring
pub mod Indexing
pub mod Unique
