pub mod BitLaws
pub mod Groups
pub mod Digits
pub mod Numbers
pub mod Chunks
