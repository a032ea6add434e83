-- Comments cite document 01 by its sections; docs/RULES.md says it in words, under the same headings.
-- The rules:
pub mod Tabulate
pub mod Packed
pub mod CopyOutcome
pub mod Answers
-- Internal:
pub mod Cut
