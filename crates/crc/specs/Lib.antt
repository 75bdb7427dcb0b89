pub mod Crc
pub mod Laws
