-- The loop over the entries of a SETTINGS frame.
use Rattle.std.proofs.Common.{◌≡◌, ℕ, ◌+◌, ◌*◌, ◌%◌, ◌<◌, ◌≤◌, List, [], ◌∷◌, length, get_or, drop, refl, sym, ap, arith}
use Rattle.rx_h2conn.specs.declared.settings.Asked.{Asked}
use Rattle.rx_h2conn.specs.Streams.{number}
use Rattle.rx_h2conn.specs.Settings.{Setting, settings_of, asks, asked}

-- the entry that bytes begin with
abbrev pub first_setting : List ℕ → Setting
first_setting xs = record { name = get_or xs 0 0 * 256 + get_or xs 1 0; value = number (drop 2 xs) }

pub settings_of-cons : (xs : List ℕ) → 6 ≤ length xs → settings_of xs ≡ first_setting xs ∷ settings_of (drop 4 (drop 2 xs))
settings_of-cons [] h = absurd (omega arith)
settings_of-cons (a ∷ []) h = absurd (omega arith)
settings_of-cons (a ∷ b ∷ []) h = absurd (omega arith)
settings_of-cons (a ∷ b ∷ c ∷ []) h = absurd (omega arith)
settings_of-cons (a ∷ b ∷ c ∷ d ∷ []) h = absurd (omega arith)
settings_of-cons (a ∷ b ∷ c ∷ d ∷ e ∷ []) h = absurd (omega arith)
settings_of-cons (a ∷ b ∷ c ∷ d ∷ e ∷ f ∷ rest) h = refl

pub settings_step : (all new : Asked) (left rest back : List ℕ) (name value : ℕ) → 6 ≤ length left → rest ≡ drop 2 left → back ≡ drop 4 rest → name ≡ get_or left 0 0 * 256 + get_or left 1 0 → value ≡ number rest → new ≡ asks all (record { name = name; value = value }) → asked new (settings_of back) ≡ asked all (settings_of left)
settings_step all new left rest back name value h rest_is back_is name_is value_is new_is =
    rw (new_is, name_is, value_is, back_is, rest_is) (sym (ap (asked all) (settings_of-cons left h)))

-- as long as something is left, a whole entry is
pub some_whole : (xs : List ℕ) → length xs % 6 ≡ 0 → 0 < length xs → 6 ≤ length xs
some_whole xs h some = omega (arith, h, some)
