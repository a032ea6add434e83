-- Comments cite document 01 by its sections and document 02 by its requests; docs/RULES.md says both in words, under the same headings.
-- The rules:
pub mod Register
pub mod Fault
-- The register as it is lent:
pub mod Lent
-- Claims:
pub mod Claims
