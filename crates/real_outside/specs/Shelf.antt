-- What the contracts of a shelf over a folder cite.
pub mod Folder
pub mod Keeping
