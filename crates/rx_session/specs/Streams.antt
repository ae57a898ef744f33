-- What calls on a source did to the bytes that it tells.
use Rattle.std.specs.Prelude.{◌≡◌, ◌≢◌, ◌<◌, ℕ, List, ◌++◌, Option}
use Rattle.std.specs.Io.KnownBytes.{Consumes}
use Rattle.rx_session.specs.declared.bad.BadReason.TheVariants.{CutShort}
use Rattle.rx_session.specs.declared.bad.SessionFault.{SessionFault}
use Rattle.rx_session.specs.declared.bad.SessionFault.TheVariants as faults

-- what was taken from the source was put at the end of what was read
pub record ReadsOn (left_old left_new : Option (List ℕ)) (old new : List ℕ) : Type 0 where
  pub bytes : List ℕ
  pub grown : new ≡ old ++ bytes
  pub consumed : Consumes left_old left_new bytes

-- the source failed, or memory ran out
abbrev pub IsNoBad : SessionFault → Type 0
IsNoBad faults.ReadFault = Unit {0}
IsNoBad faults.NoMemory = Unit {0}
IsNoBad (faults.Bad why) = ⊥

-- no frame was found to be cut short
abbrev pub IsNoCut : SessionFault → Type 0
IsNoCut faults.ReadFault = ⊥
IsNoCut faults.NoMemory = Unit {0}
IsNoCut (faults.Bad why) = why.reason ≢ CutShort

-- a frame was found to be cut short only where fewer bytes than a header's were there
abbrev pub IsNoCutPast : ℕ → SessionFault → Type 0
IsNoCutPast len faults.ReadFault = ⊥
IsNoCutPast len faults.NoMemory = ⊥
IsNoCutPast len (faults.Bad why) = why.reason ≡ CutShort → len < 5
