-- What the contracts of the lexer cite.
pub mod Tokens
pub mod Lexing
pub mod LexingEnds
