-- What the contracts of the tree cite.
pub mod Forms
pub mod Names
pub mod Programs
