pub mod Parting
pub mod Matches
pub mod Accepted
