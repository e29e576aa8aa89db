pub mod Layout
pub mod Inside
pub mod Stored
pub mod Packing
pub mod Opened
pub mod Laws
