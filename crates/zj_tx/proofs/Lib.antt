pub mod Fronts
pub mod Overwrites
pub mod Records
pub mod Spelling
pub mod BoundLists
pub mod PartLists
pub mod FrozenLemmas
