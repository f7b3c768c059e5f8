-- answers to commands, and what they are made of
pub mod Answers
-- what is read of nodes
pub mod Nodes
-- values of properties by their names
pub mod Values
-- what revisions changed
pub mod Changes
-- the last change of a node
pub mod LastChanges
-- what the texts of a repository stand for
pub mod Texts
-- the texts of files
pub mod NodeTexts
-- why a command isn't answered by success
pub mod Refusals
-- what a command's revisions and paths name
pub mod Named
-- the fields of commands
pub mod CommandFields
-- what is written of a node
pub mod NodeBytes
-- what is answered to commands
pub mod Commands
-- what the code holds of what is asked for
pub mod Asking
-- where a client is that names a URL
pub mod Sessions
