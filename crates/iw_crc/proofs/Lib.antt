pub mod Linear
pub mod TableRules
pub mod Words
pub mod Folds
pub mod FoldSteps
pub mod Sixteens
