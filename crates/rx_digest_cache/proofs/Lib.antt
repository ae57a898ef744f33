mod CacheLemmas
mod KeptLemmas
