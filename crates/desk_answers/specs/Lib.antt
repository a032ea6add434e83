-- Comments cite document 01 by its sections; docs/RULES.md says it in words, under the same headings.
-- The line of an answer, read back from the log; that it is the rules' is proved by `desk_core`:
pub mod Recorded
