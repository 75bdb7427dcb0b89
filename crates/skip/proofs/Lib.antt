pub mod ListLaws
pub mod SkipLaws
pub mod SparedLaws
pub mod FoundLaws
