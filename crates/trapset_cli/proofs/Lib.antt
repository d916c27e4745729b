mod PlanesInRange
mod OneVerdict
mod TrapsLemmas
mod ApplyLemmas
mod ClauseLemmas
