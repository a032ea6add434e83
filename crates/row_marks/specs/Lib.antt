-- Comments cite document 02, the change requests, by their numbers; docs/RULES.md, 'Conflicts by pair', says C-12 in words.
-- The rules:
pub mod Opposed
-- Internal:
pub mod Marks
pub mod Walk
