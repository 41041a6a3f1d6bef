-- What an exchange does with a request, from the outside in: public contracts use these modules. Read `Replies` first;
-- it defines the replies that an exchange over an account gives to a call.
pub mod Exchanges
pub mod Replies
pub mod Outcomes
pub mod Answers
-- What an account does for an exchange: it takes calls, and shows what is asked for.
pub mod Submits
pub mod UnlessPremature
-- What is asked of the clock.
pub mod Clocks
pub mod Reads
-- The texts that are this project's own: of what is shown, of a refused call, and of a history
-- and its trace in pieces.
pub mod Views
pub mod Refusals
pub mod Pieces
pub mod HistoryFrames
pub mod TraceFrames
-- The length of a request's body and its first bytes, and the moment at which its call is submitted.
pub mod Lengths
pub mod Bodies
pub mod Moments
-- What only private contracts use: the stages of an exchange, an attempt to submit, a poll that waits, and its bell.
pub mod Stages
pub mod Standing
pub mod Attempts
pub mod Pending
-- The order of the callers whose calls are held back.
pub mod Queues
-- What is counted of the requests that are rejected.
pub mod Causes
pub mod Boards
pub mod Ringing
