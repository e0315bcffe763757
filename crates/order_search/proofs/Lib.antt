pub mod AllLists
pub mod Walks
pub mod Moves
pub mod Measure
pub mod Within
pub mod OrderedLists
