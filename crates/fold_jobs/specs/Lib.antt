pub mod Limits
pub mod Machine
pub mod Waiting
pub mod Invariant
pub mod Record
pub mod OwnEvents
pub mod Laws
