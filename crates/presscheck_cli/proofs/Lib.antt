mod EndLemmas
mod ClauseLemmas
