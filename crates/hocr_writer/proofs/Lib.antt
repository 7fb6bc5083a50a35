-- The lemmas on growing texts and on whole layouts.
pub mod Joined
pub mod Growing
pub mod Images
pub mod Apart
pub mod Wholes
