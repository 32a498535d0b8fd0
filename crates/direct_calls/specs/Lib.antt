pub mod Made
pub mod CallLists
