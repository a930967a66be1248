pub mod Passes
pub mod Folds
pub mod Rest
pub mod Below
pub mod Marks
pub mod Sharing
pub mod Clashes
