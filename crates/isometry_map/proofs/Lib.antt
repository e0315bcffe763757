pub mod Widths
pub mod Images
pub mod Mirrors
pub mod Insides
