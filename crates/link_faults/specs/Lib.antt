pub mod Codes
pub mod First
pub mod FirstLaws
pub mod Checked
