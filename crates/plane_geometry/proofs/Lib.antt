pub mod Wides
pub mod Faults
pub mod Offsets
pub mod Meets
pub mod CommonAnswer
