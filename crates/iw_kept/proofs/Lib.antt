mod KeptSteps
pub mod OctetLemmas
