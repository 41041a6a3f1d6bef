-- Of a text that is too long, one byte too many says as much as all of them.
mod Reading
