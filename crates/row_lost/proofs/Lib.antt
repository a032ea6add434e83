-- For the proofs of this crate:
pub mod Listed
pub mod Marked
pub mod Within
