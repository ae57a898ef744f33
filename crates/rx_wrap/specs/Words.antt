-- The words of the command line: flags, and the command behind them.
use Rattle.std.specs.Prelude.{ℕ, List, [], ◌∷◌, ◌++◌, Bool, not, ◌&&◌, ◌||◌, Option, Some, None, Result, Ok, Err, if◌then◌else◌, codes, drop}
use Rattle.std.specs.Option.{is_none}
use Rattle.std.specs.Str.{bytes_eq}
use Rattle.rx_base.specs.Results.{◌>>=◌}
use Rattle.rx_wrap.specs.Cuts.{after, before, begins, equals_sign, has}
use Rattle.rx_wrap.specs.Flags.{flag_named, is_switch}
use Rattle.rx_wrap.specs.Settings.{Setting, setting}
use Rattle.rx_wrap.specs.declared.flags.Flag.{Flag}
use Rattle.rx_wrap.specs.declared.usage_fault.UsageFault.{UsageFault}
use Rattle.rx_wrap.specs.declared.usage_fault.UsageFault.TheVariants.{Word}
use Rattle.rx_wrap.specs.declared.words.FlagWord.{FlagWord}
use Rattle.rx_wrap.specs.declared.words.FlagWord.TheVariants.{Whole, Waiting, Skipped, Unknown}
use Rattle.rx_wrap.specs.Reading.{Reading, Words}

-- a word without the one dash or two at its front
abbrev pub undashed : List ℕ → List ℕ
undashed word =
    if begins word (codes "--") then drop 2 word
    else if begins word (codes "-") then drop 1 word
    else word

-- a switch alone is true; another flag's value is the next word
abbrev pub alone : Flag → List ℕ → FlagWord
alone flag word =
    if is_switch flag then Whole (setting flag (codes "true") word) else Waiting (setting flag [] word)

abbrev pub valued : Option Flag → List ℕ → List ℕ → FlagWord
valued None value word = Skipped
valued (Some flag) value word = Whole (setting flag value word)

abbrev pub unvalued : Option Flag → List ℕ → FlagWord
unvalued None word = Unknown
unvalued (Some flag) word = alone flag word

-- a text behind dashes is NAME=VALUE, or a name
abbrev pub flag_text : List ℕ → List ℕ → FlagWord
flag_text text word =
    if has equals_sign text then valued (flag_named (before equals_sign text)) (after equals_sign text) word
    else unvalued (flag_named text) word

-- what a word that begins with a dash says
unfoldable pub flag_word : List ℕ → FlagWord
flag_word word = flag_text (undashed word) word

abbrev pub with_setting : List Setting → Setting → Reading
with_setting settings setting = record { settings = settings ++ setting ∷ []; waiting = None }

abbrev pub with_flag_word : List Setting → List ℕ → FlagWord → Result Reading UsageFault
with_flag_word settings word (Whole setting) = Ok (with_setting settings setting)
with_flag_word settings word (Waiting setting) = Ok (record { settings = settings; waiting = Some setting })
with_flag_word settings word Skipped = Ok (record { settings = settings; waiting = None })
with_flag_word settings word Unknown = Err (Word word)

abbrev pub with_word_by : Option Setting → List Setting → List ℕ → Result Reading UsageFault
with_word_by (Some flag) settings word = Ok (with_setting settings (setting flag.flag word flag.place))
with_word_by None settings word = with_flag_word settings word (flag_word word)

-- one more word: the value of a flag that waits, or a flag
unfoldable pub with_word : Reading → List ℕ → Result Reading UsageFault
with_word reading word = with_word_by reading.waiting reading.settings word

-- the command begins: the word is no flag's value, and is `--` or has no dash
abbrev pub ends_flags : Reading → List ℕ → Bool
ends_flags reading word =
    is_none reading.waiting && (bytes_eq word (codes "--") || not (begins word (codes "-")))

-- no flag may wait for its value
abbrev pub ended_by : Option Setting → List Setting → List (List ℕ) → Result Words UsageFault
ended_by None settings command = Ok (record { settings = settings; command = command })
ended_by (Some flag) settings command = Err (Word flag.place)

abbrev pub ended : Reading → List (List ℕ) → Result Words UsageFault
ended reading command = ended_by reading.waiting reading.settings command

abbrev pub nothing_read : Reading
nothing_read = record { settings = []; waiting = None }

-- the command in the words from the one that ends the flags
abbrev pub command_in : List (List ℕ) → List (List ℕ)
command_in [] = []
command_in (word ∷ words) = if bytes_eq word (codes "--") then words else word ∷ words

-- flags one after the other, up to the command
abbrev pub words_in : Reading → List (List ℕ) → Result Words UsageFault
words_in reading [] = ended reading []
words_in reading (word ∷ words) =
    if ends_flags reading word then Ok (record { settings = reading.settings; command = command_in (word ∷ words) })
    else do
      next ← with_word reading word
      words_in next words
