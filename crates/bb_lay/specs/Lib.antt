pub mod Tables
pub mod Laying
pub mod RowsOf
