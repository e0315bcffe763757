pub mod Record
pub mod Closings
pub mod Enumeration
pub mod Laws
pub mod Rows
