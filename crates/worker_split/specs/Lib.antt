pub mod Pieces
pub mod Tasks
pub mod Job
pub mod Invariant
pub mod Waiting
pub mod Settled
pub mod Laws
