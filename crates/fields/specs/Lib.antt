pub mod Amount
pub mod Bytes
pub mod Calendar
pub mod Date
pub mod Digits
pub mod Examples
pub mod FieldVerdict
pub mod Laws
