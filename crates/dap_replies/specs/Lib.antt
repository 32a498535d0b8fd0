pub mod ReplyViews
pub mod ReplyReading
