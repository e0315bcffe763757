pub mod Stored
pub mod Bound
pub mod EdgeView
pub mod Interval
pub mod Region
pub mod Strip
