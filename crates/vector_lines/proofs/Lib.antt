pub mod Escapes
pub mod LineCuts
