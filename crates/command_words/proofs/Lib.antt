-- The lemmas on words, on what `clap` makes of them, and on plans.
pub mod Walking
pub mod Reading
pub mod Finding
pub mod Telling
pub mod Parsing
pub mod Known
pub mod Flags
pub mod Deciding
pub mod Digits
