-- Lemmas on faults and on the text of a state.
mod Digits
mod Entries
mod Passed
pub mod Places
pub mod Putting
mod Scripts
mod Spelled
pub mod Struck
mod Tables
mod Widths
