-- Lemmas on depths, on the tests that decide them, and on the keywords.
pub mod Within
pub mod Keys
pub mod WithinRules
pub mod Whole
