pub mod Cutting
pub mod Decoding
