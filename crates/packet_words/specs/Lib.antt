pub mod Requests
pub mod Commands
pub mod Replies
pub mod Exchange
pub mod Saying
pub mod Laws
pub mod Accesses
