-- What is read of a body, one frame more at a time.
mod Frames
mod Pieces
-- What an exchange gives, from where it stands.
mod Beginnings
-- The compact text of the counts' value.
mod StatsText
-- The compact texts of what a clock shows, and of the version.
mod ClockText
-- What the relations of an account say of the reply to a call.
mod Replying
-- A reply that a history gives, each history that goes on there gives too.
mod RepliesStay
-- What a body that shows a trace yields, one step at a time.
mod Tracing
