-- What was written to a sink.
use Rattle.std.specs.Prelude.{ℕ, ◌<◌, List, Option, length, take}
use Rattle.std.specs.Io.KnownBytes.{Appends, Keeps}
use Rattle.rx_world.specs.Causes.{Rose}
use Rattle.rx_world.specs.declared.streams.Sink as sink_of

-- what a sink tells before and after, and how often it had failed
pub record Said : Type 0 where
  pub before : Option (List ℕ)
  pub after : Option (List ℕ)
  pub faults_before : ℕ
  pub faults_after : ℕ

abbrev pub said : {O : Type 0} → sink_of.Ghosts O → O → O → Said
said m old new = record {
  before = m.taken old;
  after = m.taken new;
  faults_before = m.faults old;
  faults_after = m.faults new;
}

-- a front of the text was written, and all of it unless the count of faults rose
pub record Says (s : Said) (text : List ℕ) : Type 0 where
  pub count : ℕ
  pub front : Appends s.before s.after (take count text)
  pub cut : count < length text → Rose s.faults_before s.faults_after

-- all of the text was written
abbrev pub SaysWhole : Said → List ℕ → Type 0
SaysWhole s text = Appends s.before s.after text

-- nothing was written
abbrev pub IsSilent : Said → Type 0
IsSilent s = Keeps s.before s.after
