-- Comments cite document 02, the change requests, by their numbers; docs/RULES.md, 'Names on the board', says C-11 in words.
-- The rules:
pub mod Lines
pub mod Name
pub mod Part
-- The claims:
pub mod Claims
-- Internal, for the contracts of functions that are not public, and for the proofs:
pub mod Scan
