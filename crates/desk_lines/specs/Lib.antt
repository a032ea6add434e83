-- Comments cite document 01 by its sections; docs/RULES.md says it in words, under the same headings.
-- The rules: the lines of the input.
pub mod Lines
