pub mod PageLemmas
mod WorkedWords
pub mod EndLemmas
pub mod OutputLemmas
pub mod SampleLemmas
pub mod LocalityLemmas
pub mod ClauseLemmas
