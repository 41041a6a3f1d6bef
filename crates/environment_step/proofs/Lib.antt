-- Lists of answers: in rising ticket order, and with one put in its place.
pub mod Rising
pub mod Puts
-- Which answers an entry gives first.
mod FirstValues
-- What an entry leaves alone, at one environment and at all others.
pub mod Frame
pub mod Stands
-- The extensions of a generation, and the roles of their Nexts.
mod Extensions
mod MemberRoles
-- The stand after an entry is a function of the one before.
mod FirstStage
mod PhaseAfter
mod PendingAfter
mod SecondStage
-- The answers that an entry gives at an environment, from its stand.
mod EventNumbers
mod HeldTickets
mod FirstMoves
pub mod SecondMoves
mod UnnumberedMoves
mod NumberedMoves
mod EventTickets
pub mod StepLaws
-- Whose charge an entry ends there.
pub mod Ended
