pub mod Tells
pub mod Shown
pub mod Lengths
