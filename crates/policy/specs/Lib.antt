-- Comments cite document 01 by its sections and document 02 by its requests; docs/RULES.md says both in words, under the same headings.
-- The rules:
pub mod Conflict
pub mod Rules
pub mod Outcome
-- The words of demand 3:
pub mod Wall
pub mod History
-- Claims, and the words that they use:
pub mod Demand3
pub mod Papers
pub mod Session
pub mod Modes
pub mod Persons
