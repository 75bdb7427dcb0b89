pub mod PageTypes
pub mod EntryLaws
pub mod MapSteps
pub mod MapRule
pub mod Slots
