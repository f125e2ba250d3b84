pub mod PatternSides
