-- Comments cite document 01 by its sections; docs/RULES.md says it in words, under the same headings.
-- The rules: the folders that an input gives, and the lines that end them.
pub mod Folders
-- Claims: the words for what is printed before the first request; `Joined.antt` of `desk_core` is the claim over them.
pub mod Opened
-- Claims: what the run goes on with.
pub mod Ready
-- Internal: the folders as the code files them, and how what the run goes on with is stored.
pub mod Heading
pub mod Inside
