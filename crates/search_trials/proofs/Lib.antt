mod Tables
mod HeldLeases
mod Replacing
