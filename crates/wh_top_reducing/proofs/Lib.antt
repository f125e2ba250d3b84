pub mod GivenTerms
pub mod ToldLines
pub mod OneText
