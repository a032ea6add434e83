pub mod Onward
pub mod Letters
