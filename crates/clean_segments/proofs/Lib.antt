mod CleanLemmas
mod EightOctets
mod KindLemmas
mod LookLemmas
mod LookedLemmas
mod PlainLemmas
