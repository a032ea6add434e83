pub mod Firsts
pub mod Fours
pub mod Opponents
pub mod Opposers
