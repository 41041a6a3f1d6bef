mod AnsweredInWay
mod Arrived
mod BeforeCalls
mod Concerned
mod EntryAnswers
mod EntryMoves
mod EntryExtent
mod Expiring
mod Extent
mod FleetMeets
mod GivenAnswers
mod Flown
mod InForce
mod Indexed
mod LedgerKept
mod Loops
mod Merging
mod Newly
mod RequestCounts
mod Verdicts
mod Visiting
mod Visits
-- The room of the journal.
mod RoomMeets
-- A history's text is replayed to that history.
pub mod LineEnds
mod FormsAgree
mod HistoryLines
mod TextParts
mod GoingOn
mod AnswersStay
pub mod Reaching
-- Its moments and names are in their ranges.
pub mod Fitting
mod Replaying
mod WholeText
-- What a reply is made of.
mod Rendered
-- A reply that a history gives, each history that continues it gives too.
mod RepliesStay
mod Taken
-- A reserved function gets the replies that it would get alone.
pub mod Isolating
