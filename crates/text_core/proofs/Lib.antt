pub mod Decimal
pub mod FirstField
pub mod FirstLine
pub mod Hexadecimal
pub mod InOrder
pub mod Parted
pub mod Begun
