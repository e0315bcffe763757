pub mod Members
pub mod Covered
pub mod Ascending
pub mod InOrderLaws
pub mod AddedParts
pub mod Meetings
pub mod AddLaws
pub mod Lengths
pub mod Kept
pub mod Changes
pub mod Steps
pub mod Joining
pub mod Chains
pub mod MergedPieces
pub mod Merges
pub mod Refused
pub mod Loads
pub mod DeleteLaws
pub mod MergeLaws
pub mod Searching
pub mod MergeCover
pub mod OwnPieces
pub mod OwnLines
pub mod Held
mod InOneWalk
mod MergedOnce
mod OwnCuts
mod Reach
