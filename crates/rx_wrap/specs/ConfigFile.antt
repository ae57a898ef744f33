-- Settings of the configuration file: lines name=value.
use Rattle.std.specs.Prelude.{ℕ, List, [], ◌∷◌, ◌++◌, Bool, ◌||◌, ◌==◌, Option, Some, None, Result, Ok, Err, if◌then◌else◌, codes}
use Rattle.std.specs.Char.{is_ascii_whitespace}
use Rattle.std.specs.List.{list_all, slice_split}
use Rattle.std.specs.Option.{option_and_then}
use Rattle.rx_base.specs.Results.{◌>>=◌}
use Rattle.rx_wrap.specs.Cuts.{after, before, begins, equals_sign, has}
use Rattle.rx_wrap.specs.Flags.{flag_named, is_same}
use Rattle.rx_wrap.specs.Settings.{Setting, setting}
use Rattle.rx_wrap.specs.declared.flags.Flag.{Flag}
use Rattle.rx_wrap.specs.declared.flags.Flag.TheVariants.{Config}
use Rattle.rx_wrap.specs.declared.usage_fault.UsageFault.{UsageFault}
use Rattle.rx_wrap.specs.declared.usage_fault.UsageFault.TheVariants.{Word}

abbrev pub lines : List ℕ → List (List ℕ)
lines text = slice_split (λ b. b == 10) text

abbrev pub is_blank : List ℕ → Bool
is_blank line = list_all is_ascii_whitespace line

-- a blank line or a comment
abbrev pub is_skipped : List ℕ → Bool
is_skipped line = is_blank line || begins line (codes "#")

-- the file's own flag isn't read from the file
abbrev pub flag_in_file : List ℕ → Option Flag
flag_in_file name =
    option_and_then (λ flag. if is_same flag Config then None else Some flag) (flag_named name)

abbrev pub with_named : List Setting → Option Flag → List ℕ → List ℕ → List Setting
with_named settings None value line = settings
with_named settings (Some flag) value line = settings ++ setting flag value line ∷ []

unfoldable pub with_line : List Setting → List ℕ → Result (List Setting) UsageFault
with_line settings line =
    if is_skipped line then Ok settings
    else if has equals_sign line then
    Ok (with_named settings (flag_in_file (before equals_sign line)) (after equals_sign line) line)
    else Err (Word line)

unfoldable pub settings_in_lines : List Setting → List (List ℕ) → Result (List Setting) UsageFault
settings_in_lines settings [] = Ok settings
settings_in_lines settings (line ∷ others) = do
  next ← with_line settings line
  settings_in_lines next others
