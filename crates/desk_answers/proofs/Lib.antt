pub mod Recorded
pub mod Answered
