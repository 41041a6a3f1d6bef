-- The invocation, the environment and the extension that a reply names, as text.
pub mod Words
-- The replies, by families of answers.
pub mod Refusals
pub mod Polls
pub mod Outcomes
-- The reply to each answer.
pub mod Replies
pub mod Gists
