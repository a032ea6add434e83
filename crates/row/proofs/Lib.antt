-- For callers:
pub mod Fitting
-- For the proofs of this crate and of `row_lost`:
pub mod Cut
-- For the proofs of the searches:
pub mod Found
