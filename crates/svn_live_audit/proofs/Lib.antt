-- A history whose texts are kept as stand-ins has the same nodes at the same places.
pub mod KeptHistories
-- What a server said of a node is the reason that each history has which gives that answer.
pub mod Verdicts
-- The untrue paths after two rounds of questions are those by what is said of the nodes at last.
pub mod Rounds
-- Bytes that come on a connection, piece by piece, and the answers in them.
pub mod Conversing
-- What an honest server says is what its history gives.
pub mod Honest
-- Places that are looked at one by one, and a connection on which nothing came.
pub mod Lookings
