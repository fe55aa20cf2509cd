pub mod ExecText
pub mod Striking
