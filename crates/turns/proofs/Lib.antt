pub mod Skipping
pub mod Taking
