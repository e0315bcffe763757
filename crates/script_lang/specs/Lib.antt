pub mod Judged
pub mod Script
pub mod Refusals
pub mod Replies
pub mod Laws
