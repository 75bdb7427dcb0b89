pub mod Lanes
pub mod LanesNext
