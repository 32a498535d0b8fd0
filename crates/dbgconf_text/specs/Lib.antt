pub mod Cuts
pub mod Conf
pub mod Turns
pub mod Replacing
pub mod Values
pub mod Splicing
pub mod Written
pub mod There
