pub mod Amended
pub mod Change
pub mod Laws
pub mod Withdraw
