pub mod FilteredSignature
pub mod OrderedCalls
pub mod PatternPairs
