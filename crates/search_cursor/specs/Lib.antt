pub mod Place
pub mod Cases
pub mod Laws
pub mod PlaceLaws
