pub mod SplitLaws
mod Gathered
mod Between
