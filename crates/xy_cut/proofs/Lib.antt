pub mod Lists
pub mod Bands
pub mod Best
pub mod Hulls
pub mod Cuts
pub mod Unique
