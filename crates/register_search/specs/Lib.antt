-- Comments cite document 01 by its sections; docs/RULES.md says it in words, under the same headings.
-- The rules:
pub mod Search
-- Internal:
pub mod Folders
pub mod Chains
pub mod Marks
