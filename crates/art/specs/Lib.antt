pub mod State
pub mod Verbs
pub mod Rules
pub mod Record
