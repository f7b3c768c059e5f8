-- What one more call makes of what was taken.
pub mod Applied
-- The calls of a drive: the copy accepts each after those before it.
pub mod Accepting
-- Why no run leads to a target: the fault by the node of the copy's root is the one by its report.
pub mod Beginning
-- Why a run stopped, by its limit and how many of its calls were made and accepted.
pub mod Causes
-- The theorem of a run, from the laws and what became of the drive's calls.
pub mod Composing
-- What a drive makes of a copy, through a carrier that counts.
pub mod Counting
-- The calls of a drive: none of them is an `AbortEdit`, and none but the last is the last of an edit.
pub mod DriveCalls
-- What a run on two threads came to: from what both sides hand back.
pub mod Ending
-- Where a driver stopped: that many calls of its list were accepted, and the next was refused or not made.
pub mod Halting
-- What is known of the copy that a run left.
pub mod Knowing
-- The report of a run is the crawl of its copy: what is asked for by the one is asked for by the other.
pub mod Reported
-- What a drive makes of the driver's ends: the calls that were sent.
pub mod Sending
-- The theorems of a run on one thread and of one on two, from their parts.
pub mod Theorems
