-- Comments cite document 02, the change requests, by their numbers; docs/RULES.md, 'Conflicts by pair', says C-12 in words.
-- Internal:
pub mod Opponents
pub mod Among
