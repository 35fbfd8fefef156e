pub mod Segments
pub mod Columns
pub mod Degree
pub mod Listings
pub mod Marks
