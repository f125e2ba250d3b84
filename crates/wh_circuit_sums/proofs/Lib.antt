pub mod CountLemmas
pub mod SumLemmas
