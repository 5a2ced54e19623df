pub mod Ring
pub mod Moments
pub mod Reading
pub mod Journal
pub mod State
pub mod Commit
pub mod Cause
pub mod Laws
