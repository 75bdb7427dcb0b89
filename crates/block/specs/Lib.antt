pub mod BlockType
pub mod Control
pub mod Edc
pub mod Made
pub mod Block
pub mod Laws
