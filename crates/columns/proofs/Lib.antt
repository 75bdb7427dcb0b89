pub mod WordLaws
pub mod CheckBytes
pub mod Checking
pub mod Rebuilding
