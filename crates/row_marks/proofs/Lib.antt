pub mod Rows
pub mod Words
pub mod Marks
pub mod Quarters
pub mod Opponents
pub mod Threes
