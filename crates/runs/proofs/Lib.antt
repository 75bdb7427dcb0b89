pub mod BlockLaws
pub mod UpLaws
pub mod DownLaws
pub mod TurnLaws
pub mod GetLaws
