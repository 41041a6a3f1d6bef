-- What a call names and the bytes that it carries. The headline rests on `is_invoke` and `env_of`.
pub mod Calls
-- The head of a call, which a receipt keeps, and the words for reasons.
pub mod Heads
pub mod Words
-- The answers of an entry, however they are held.
mod Pairs
-- The calls that are within the limits of the service.
pub mod Within
