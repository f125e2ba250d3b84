pub mod Family
pub mod RawFamily
