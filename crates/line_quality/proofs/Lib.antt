-- Lemmas of the heights of lines, of the weights of their groups, and of the digits of their keys.
pub mod Heights
pub mod Sums
pub mod Decoding
pub mod Scored
