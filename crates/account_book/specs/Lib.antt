-- The specification of the headline uses no definition of this crate. The crate's public contracts and laws use the
-- modules up to Answering.
-- A book as its callers see it, which histories it can have, and how far the shutdown of its service has come.
pub mod Book
pub mod Reached
pub mod Requests
pub mod Books
-- Texts: the history's, the reply to each call, and what the replay of a script writes.
pub mod HistoryText
pub mod ReplyText
pub mod Run
-- Which Invokes are premature, and how many answers a call needs room for.
pub mod Premature
pub mod Answering
-- What the code keeps beside the history, and how it agrees with it. These modules need not be trusted: private
-- contracts and the invariants of types use them, and no public contract does.
-- The reservations that a call leaves in force.
pub mod Reserving
-- The environments, and what a call changes at those that it reaches.
pub mod Taking
pub mod Arriving
pub mod Crew
pub mod Fleets
pub mod OwnAnswers
-- The journal and its room.
pub mod Pages
pub mod Journals
pub mod Room
-- The entries, with what is derived from them.
pub mod Shelf
pub mod Ledgers
pub mod Indexes
