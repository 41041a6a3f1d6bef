mod PathLemmas
mod RouteLemmas
mod HeadLemmas
mod Within
mod Allowed
mod TooLong
mod ParamRoutes
mod PlainNames
