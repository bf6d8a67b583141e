pub mod Known
pub mod Lists
pub mod Opened
pub mod Puts
pub mod Searches
pub mod Stepped
pub mod Elements
pub mod Keys
