pub mod Super
pub mod Home
pub mod Told
pub mod Made
