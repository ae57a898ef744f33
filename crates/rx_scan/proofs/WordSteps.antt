-- The outputs that a command's words name are safe.
use Rattle.std.proofs.Common.{◌≡◌, ℕ, List, sym, subst}
use Rattle.std.specs.Prelude.{Some}
use Rattle.std.specs.List.{AllByRecursion}
use Rattle.rx_cppflags.specs.declared.readings.Reading.{Reading}
use Rattle.rx_cppflags.specs.declared.readings.Reading.TheVariants as reading
use Rattle.rx_cppflags.specs.Readings.{HasSafeOutputs, IsSafeOutput}
use Rattle.rx_world.specs.declared.commands.Command.{Command}
use Rattle.rx_scan.specs.declared.words.WordMeaning.{WordMeaning}
use Rattle.rx_scan.specs.Words.{outputs_in, meaning_of}

abbrev Safe : Command → List (List ℕ) → List (List ℕ) → Type 0
Safe command inputs outputs = AllByRecursion (IsSafeOutput command inputs outputs) outputs

safe-read : (command : Command) (inputs : List (List ℕ)) (read : Reading) → HasSafeOutputs command inputs read → Safe command inputs (outputs_in read)
safe-read command inputs (reading.Compile source quote_dirs dirs forced walked sysroots outputs is_c) h = h
safe-read command inputs (reading.LocalOnly word outputs) h = h

pub safe-meaning : (command : Command) (inputs : List (List ℕ)) (read : Reading) (meaning : WordMeaning) → meaning ≡ meaning_of command (Some read) → HasSafeOutputs command inputs read → Safe command inputs meaning.outputs
safe-meaning command inputs read meaning e h = subst (λ (s : WordMeaning). Safe command inputs s.outputs) (sym e) (safe-read command inputs read h)
