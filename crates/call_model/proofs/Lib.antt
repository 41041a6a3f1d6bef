-- Lists, options, counts.
pub mod Basics
-- The table of phases by its cells.
pub mod Cells
-- Lists of answers by ticket; lists by deadline.
pub mod Pairs
pub mod Deadlines
-- One entry: who is answered, what is pending after it, which phase comes, what it leaves alone, which values it gives.
pub mod Visits
pub mod Once
pub mod AfterEntry
pub mod TicketsWithin
pub mod Scans
pub mod PhaseStep
pub mod Elsewhere
pub mod AnswerValues
-- Where invocations live: at hand, bound, served; and how many are charged.
pub mod AtHand
pub mod BoundWaits
pub mod Lives
pub mod Charges
pub mod Flight
mod FlightStep
-- The limits of admissions.
pub mod AdmissionLimits
pub mod NoLocalRefusal
-- Deliveries: what an entry answers by the table, what a Busy that begins delivers, and that this is once.
mod FirstPhase
pub mod FirstAnswers
mod GivenCounts
mod DeliveredOnce
-- Parked Nexts: whose they are, where they stand, and that an Idle environment has one.
mod NextsHome
pub mod Roles
mod ParkedRoles
mod OpenStays
mod ParkedNexts
mod IdleParked
-- Outcomes come after their delivery.
mod BusyDelivered
mod OutcomeDelivered
pub mod SafeLaws
-- What is due, and the next history.
mod DueList
pub mod NextLegal
pub mod Added
-- Isolation: what a function would see alone.
pub mod OwnTickets
mod TwinHistories
pub mod OwnHistory
mod OwnEvents
mod OwnStands
mod OwnVerdict
mod OwnAnswers
pub mod OwnLegal
pub mod OwnTexts
pub mod NamedTickets
-- The calls and the counts of a history, by ticket; what the configuration says beyond its functions.
pub mod PastLemmas
pub mod IdentifiersStay
pub mod NoFunction
-- Histories that show what the laws need.
mod Witness
