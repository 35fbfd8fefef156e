pub mod Keys
pub mod Parted
pub mod CountLemmas
