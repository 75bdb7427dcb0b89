pub mod Members
pub mod Objects
pub mod Plan
pub mod DataFields
pub mod Entities
pub mod Following
pub mod Laws
