pub mod Pieces
pub mod Words
pub mod Forms
pub mod Lines
pub mod Texts
pub mod Gives
pub mod Laws
