pub mod BadPlaces
pub mod Skipped
pub mod Whole
