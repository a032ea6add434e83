pub mod Filed
pub mod Arms
pub mod Opened
pub mod Fits
