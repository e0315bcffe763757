pub mod Folding
pub mod Shape
pub mod Inside
pub mod Crease
pub mod Lines
pub mod Fold
pub mod Laws
