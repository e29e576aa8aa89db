pub mod Places
pub mod Changing
