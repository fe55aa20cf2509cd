pub mod Entries
pub mod FirstPiece
pub mod Forms
pub mod Listing
pub mod Numbers
pub mod OneLine
pub mod Rows
pub mod WordPieces
