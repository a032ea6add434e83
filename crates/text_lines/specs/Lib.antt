-- Comments cite document 01 by its sections; docs/RULES.md says it in words, under the same headings.
-- The rules: numbers and lines as they are printed, and a text as it is handed back.
pub mod Text
