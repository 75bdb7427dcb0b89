mod Table
mod Entries
pub mod Steps
pub mod Linear
pub mod Words
mod Eights
pub mod Lawful
