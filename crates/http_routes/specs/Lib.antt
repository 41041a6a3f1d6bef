-- The decision on a request, from the outside in: `decision` of its head and body, at the port where it came.
pub mod Decisions
pub mod AccountDecisions
pub mod EnvironmentDecisions
-- Which requests may be handed over to a handler.
pub mod Handing
-- The routes, and what a request names: a path's parts, a function, identifiers, headers.
pub mod Methods
pub mod Routes
pub mod Paths
pub mod Names
pub mod Identifiers
pub mod Heads
-- The replies that refuse a request before there is a call.
pub mod Refusals
-- How the code keeps these. Only private contracts and the invariants of types use these words.
pub mod Sides
pub mod Views
