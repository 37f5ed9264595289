pub mod Laws
pub mod Returned
