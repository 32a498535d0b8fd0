pub mod Pieces
pub mod Loading
pub mod LoadSequel
pub mod Meets
pub mod Laid
pub mod Rising
pub mod Frame
