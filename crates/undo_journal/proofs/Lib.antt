pub mod Undoing
pub mod Same
pub mod EditedLists
pub mod StoredVersions
pub mod Committing
