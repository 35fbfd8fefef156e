pub mod Numbers
pub mod Pieces
pub mod FirstPieces
pub mod Reading
pub mod Commands
