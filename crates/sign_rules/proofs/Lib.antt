pub mod Chains
pub mod Equality
pub mod Places
