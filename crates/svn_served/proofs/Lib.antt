-- the calls of a drive as a client is sent them
pub mod ClientCalls
-- what is written of a drive
pub mod Drives
-- what is written after a report
pub mod ReportRuns
-- what is written to a client, by the bytes that it sends
pub mod Serving
-- what comes of a command that is answered at once
pub mod Answering
-- what is read step by step
pub mod Refusing
-- what a drive is asked for, as it is read
pub mod Wantings
-- a report that can't be served
pub mod Reported
-- what is written part by part
pub mod Greetings
