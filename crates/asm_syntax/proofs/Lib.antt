pub mod Lists
pub mod Finding
pub mod Again
pub mod Wholes
pub mod Shrinks
pub mod Printed
pub mod Texts
