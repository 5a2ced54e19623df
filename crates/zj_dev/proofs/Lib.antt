pub mod DiskLaws
pub mod Images
pub mod Faults
pub mod Histories
pub mod Places
