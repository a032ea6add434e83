-- Comments cite document 01 by its sections and document 02 by its requests; docs/RULES.md says both in words, under the same headings.
-- The rules: what the desk prints for a whole input.
pub mod Output
-- Claims: the opening and the steps, run one after the other as the program does, print just that; and the words that they use.
pub mod Joined
pub mod Step
