pub mod Content
pub mod Calls
pub mod Rows
pub mod Tracks
pub mod Memories
pub mod Whole
pub mod Laws
