mod FlatSides
mod CallLemmas
pub mod Whole
mod Firsts
mod RuleLemmas
mod RuleAt
pub mod TableLemmas
pub mod Decisions
