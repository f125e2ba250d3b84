pub mod YesCode
