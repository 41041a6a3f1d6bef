-- The definitions: what the object of an entry has, and that of an environment. If you accept these, you accept what is written.
pub mod Members
pub mod CallObject
pub mod AnswerObject
pub mod PhaseObject
pub mod Object
pub mod EnvironmentObject
-- Reading the calls back.
pub mod Reading
-- How a text is told, token by token.
pub mod Telling
pub mod Listings
-- The environments that a follower keeps.
pub mod Sites
