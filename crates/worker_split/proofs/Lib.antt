pub mod Splits
pub mod Jobs
pub mod Needs
pub mod OneFact
