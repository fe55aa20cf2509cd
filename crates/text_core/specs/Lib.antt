pub mod Fields
pub mod Hexadecimal
pub mod Lines
pub mod Numbers
pub mod Room
pub mod WrittenLines
pub mod WrittenPieces
