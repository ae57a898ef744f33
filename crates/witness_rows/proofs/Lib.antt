mod Both
mod Decoded
mod NoFile
mod OneFile
mod OutcomeLemmas
mod ShownLemmas
mod SinglePremises
mod TrivialPremises
