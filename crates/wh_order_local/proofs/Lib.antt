pub mod OnlyLemmas
pub mod SiftLocal
pub mod VerdictLocal
pub mod OrderLocal
