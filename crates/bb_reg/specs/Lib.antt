pub mod Draft
pub mod Chosen
pub mod Fitting
pub mod LineTables
