pub mod SizeLaws
pub mod TextLaws
pub mod TableLaws
pub mod UsedLaws
