pub mod Edited
pub mod Versions
pub mod Steps
pub mod Invariant
pub mod JournalLaws
