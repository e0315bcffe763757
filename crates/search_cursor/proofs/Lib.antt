pub mod Orders
pub mod FourCases
