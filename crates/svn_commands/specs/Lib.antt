-- the fields of commands about many revisions
pub mod CommandFields
-- answers that are lists
pub mod Lists
-- where nodes were in earlier revisions
pub mod Segments
-- what is answered to get-locations and get-location-segments
pub mod Locations
-- what the code holds of what is asked for
pub mod Asking
-- the fields of log
pub mod LogFields
-- what is written of a revision in a log
pub mod LogItems
-- what is answered to log
pub mod Log
-- the commands of which no report follows
pub mod Replies
