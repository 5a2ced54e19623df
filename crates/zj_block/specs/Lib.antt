pub mod Block
pub mod Faults
pub mod Laws
pub mod Lists
pub mod Numbers
pub mod Sizes
