-- Lemmas on words, on spellings, and on the one list of tokens that a text has.
pub mod Words
pub mod Spellings
pub mod Lexed
