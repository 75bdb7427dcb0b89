pub mod PageType
pub mod Entry
pub mod Map
pub mod Page
