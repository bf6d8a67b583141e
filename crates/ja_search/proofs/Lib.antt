pub mod FoundPlaces
pub mod Searching
