pub mod Telling
pub mod Tells
pub mod Words
