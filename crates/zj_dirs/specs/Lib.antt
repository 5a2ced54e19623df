pub mod Changing
pub mod Laws
pub mod Looking
pub mod Possible
pub mod Trimming
pub mod Walking
