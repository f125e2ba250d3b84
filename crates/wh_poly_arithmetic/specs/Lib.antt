pub mod Totals
pub mod Growing
