pub mod Records
pub mod Replaying
pub mod Told
pub mod Versions
pub mod JobRecords
pub mod FoldingLaws
pub mod Counting
