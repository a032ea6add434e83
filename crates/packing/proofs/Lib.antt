pub mod Tabulates
pub mod Outcomes
pub mod Cells
