pub mod Chains
pub mod Marks
pub mod Later
pub mod Search
pub mod First
