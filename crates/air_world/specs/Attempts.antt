pub mod Attempt
pub mod Laws
pub mod Lists
pub mod Party
pub mod Said
pub mod Sides
pub mod Transfers
