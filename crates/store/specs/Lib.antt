pub mod Refusal
pub mod Meaning
pub mod Listing
pub mod Copying
