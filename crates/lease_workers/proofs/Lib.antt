mod Replacing
mod Turning
mod Cuts
