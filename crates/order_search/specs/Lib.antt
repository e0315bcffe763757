pub mod Lists
pub mod ListLaws
pub mod Search
pub mod Invariant
pub mod Walking
pub mod OrderedLists
