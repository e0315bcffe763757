pub mod Vertices
pub mod Fan
pub mod Sectors
pub mod FanMap
pub mod Faults
pub mod Text
pub mod Laws
