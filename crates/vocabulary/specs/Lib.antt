-- Comments cite document 01 by its sections and document 02 by its requests; docs/RULES.md says both in words, under the same headings.
-- The words of every definition:
pub mod Answer
pub mod Those
pub mod Each
pub mod Parsed
-- A row in the matrix:
pub mod Place
