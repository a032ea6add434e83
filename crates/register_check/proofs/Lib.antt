pub mod Answers
-- For callers:
pub mod NotAccepted
