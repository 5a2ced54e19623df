pub mod Fault
pub mod Frozen
pub mod Laws
pub mod Parts
pub mod Reading
pub mod Record
pub mod Running
pub mod Writing
