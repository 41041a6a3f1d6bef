-- Answers and bells, one entry more at a time.
mod Turns
-- What a step counts, and which entries it adds.
mod Stepping
-- What the pen writes at a step, and what is seen of it.
mod Written
-- The bells that stay are those of tickets that wait.
mod Waiting
-- Where a ticket's bell stands among bells in rising order, and that what stays of them is in that order.
mod Searching
-- What a call that was taken leaves of a desk.
mod AfterCall
-- The least ticket at which one of several properties fails.
mod FirstFailures
-- What tallies have together, one tally more or less at a time.
mod Gathering
-- Which tickets stand behind greater ones.
mod Rising
-- What is kept of calls, and the history.
mod Agreeing
-- How many answers a step gives.
mod Noting
-- Where nothing is kept, and nothing need be, all that is kept is right.
mod KeepingNothing
-- A trail, as the history that it has seen grows.
mod Trailing
