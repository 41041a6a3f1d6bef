-- The definitions that the headline (`headline/specs/Headline.antt`) rests on, in the order in which to read them: if
-- you accept these, you accept what the headline says. Of Next, it needs only the definitions up to `IsLegal`, and of
-- Counts, only `stats` with what `stats` uses. What a call is, and which environment it names, is defined in
-- `call_types`; the environments of a configuration are defined in `arn_ids`.
-- What has happened: entries, answers, pending calls.
pub mod History
-- An environment: its generation, its stand, the table of phases, what its parked Nexts get, its life.
pub mod Generation
pub mod Stand
pub mod Table
pub mod Polls
pub mod Life
-- The account: limits and places, the answers that a call gives, legal histories, counts.
pub mod Limits
pub mod Answers
pub mod Next
pub mod Counts
-- Definitions for the laws. The headline uses two of them, `times` and `admits`; read each of the others with its law.
pub mod Laws
-- The headline uses nothing from here on.
-- Definitions for the laws of isolation by reservation.
pub mod Own
pub mod Isolation
-- The count in each request identifier; the identifiers that answers show.
pub mod CallCounts
pub mod Identifiers
-- Examples that are proved by computation: worked histories, each cell of the table, each refusal.
pub mod Sample
pub mod RowsInvoke
pub mod RowsExtensions
pub mod RowsLimits
pub mod RowsIsolation
pub mod RowsTable
pub mod Refusals
