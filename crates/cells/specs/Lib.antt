-- Comments cite document 01 by its sections; docs/RULES.md says it in words, under the same headings.
-- The rules:
pub mod Above
pub mod Row
