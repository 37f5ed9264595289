pub mod Fault
pub mod Grammar
pub mod Laws
pub mod Rules
pub mod Shape
