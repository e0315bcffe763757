pub mod Places
pub mod Events
pub mod Own
pub mod Growing
pub mod Right
pub mod FewerTasks
