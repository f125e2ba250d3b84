pub mod LongestSequences
