pub mod Bare
pub mod BoundLists
pub mod Keeping
pub mod Growth
pub mod ImageLemmas
pub mod NewestLemmas
pub mod Recovery
mod Cases
