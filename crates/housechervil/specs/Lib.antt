-- Comments cite document 01 by its sections; docs/RULES.md says it in words, under the same headings.
-- The rules' answers as a caller in another language gets them:
pub mod Records
