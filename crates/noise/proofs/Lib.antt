pub mod Shares
pub mod Checked
