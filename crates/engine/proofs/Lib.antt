mod Entering
pub mod Refused
