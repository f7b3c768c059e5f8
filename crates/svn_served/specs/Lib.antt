-- what the code holds of a path of a drive
pub mod Following
-- what is said of the nodes of a drive
pub mod Told
-- the fields of the commands of a report
pub mod CommandFields
-- the calls of a drive as a client is sent them
pub mod ClientCalls
-- what is written of a drive
pub mod Drives
-- a report as it comes
pub mod Reporting
-- what comes of a report
pub mod Reports
-- a connection
pub mod Connection
-- the fields of commands that a report follows
pub mod AskedFields
-- what a drive is asked for
pub mod Wanting
-- commands that a report follows
pub mod Asking
-- what is written to a client, by the bytes that it sends
pub mod Serving
