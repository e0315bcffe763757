pub mod Replays
pub mod Tickets
pub mod Fitting
