pub mod Stepped
pub mod Small
pub mod Fits
pub mod Joined
