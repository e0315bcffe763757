pub mod Square
pub mod LeastCorners
pub mod LastSides
pub mod Rotations
pub mod NewSheets
pub mod Bends
pub mod KnownSides
