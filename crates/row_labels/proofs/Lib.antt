-- For callers:
pub mod Fitting
