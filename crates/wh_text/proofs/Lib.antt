pub mod Runs
pub mod CutLemmas
pub mod OneCut
pub mod RawLemmas
pub mod PrintLemmas
