pub mod InterpretedLemmas
