-- For callers, and for the proofs of this crate:
pub mod Granted
pub mod Entered
