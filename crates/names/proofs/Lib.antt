pub mod Passing
pub mod Lines
pub mod Names
pub mod Claims
