-- SETTINGS (RFC 9113 6.5).
use Rattle.std.specs.Prelude.{ℕ, ◌+◌, ◌*◌, Bool, true, false, ◌&&◌, ◌||◌, List, [], ◌∷◌, if◌then◌else◌, nat_lt, ◌==◌, max}
use Rattle.std.specs.List.{list_any}
use Rattle.rx_h2frame.specs.declared.kind.Kind.TheVariants.{Settings}
use Rattle.rx_h2frame.specs.Flags.{is_set}
use Rattle.rx_h2frame.specs.Frame.{Whole}
use Rattle.rx_h2frame.specs.Write.{Out}
use Rattle.rx_h2conn.specs.declared.settings.SizeUpdate.{SizeUpdate}
use Rattle.rx_h2conn.specs.declared.settings.SizeUpdate.TheVariants.{NotAsked, Due}
use Rattle.rx_h2conn.specs.declared.settings.Asked.{Asked}
use Rattle.rx_h2conn.specs.Session.{Session}
use Rattle.rx_h2conn.specs.Streams.{failed, is_interrupted}
use Rattle.rx_h2conn.specs.Updates.{overflows}
use Rattle.rx_h2conn.specs.Ping.{is_flooded, acknowledged}
use Rattle.rx_h2conn.specs.Streams.{passed}

pub record Setting : Type 0 where
  pub name : ℕ
  pub value : ℕ

-- entries of six bytes each
abbrev pub settings_of : List ℕ → List Setting
settings_of (a ∷ b ∷ c ∷ d ∷ e ∷ f ∷ rest) = record { name = a * 256 + b; value = ((c * 256 + d) * 256 + e) * 256 + f } ∷ settings_of rest
settings_of _ = []

abbrev pub blank_asked : ℕ → Asked
blank_asked initial = record { initial = initial; widest = 0; shrinks = false; is_wrong = false }

-- One entry: a table below the first 4,096, a window, a frame size that can't be. The others are skipped.
abbrev pub asks : Asked → Setting → Asked
asks a e =
    if e.name == 1 then record a { shrinks = a.shrinks || nat_lt e.value 4096 }
    else if e.name == 4 then record a { initial = e.value; widest = max a.widest e.value }
    else if e.name == 5 then record a { is_wrong = a.is_wrong || nat_lt e.value 16384 || nat_lt 16777215 e.value }
    else a

abbrev pub asked : Asked → List Setting → Asked
asked a [] = a
asked a (e ∷ es) = asked (asks a e) es

-- the window of a new stream, or the one of a stream that is open, would be past 2^31 - 1 after one of the entries
abbrev pub widens : Session → Asked → Bool
widens s a =
    nat_lt 2147483647 a.widest
    || (nat_lt s.initial a.widest && list_any (λ t. overflows a.widest t 0) s.streams)

-- Only the first wish for a smaller table makes the update due.
abbrev pub asked_update : Bool → SizeUpdate → SizeUpdate
asked_update true NotAsked = Due
asked_update _ update = update

abbrev pub settings_ack : Out
settings_ack = record { kind = Settings; flags = 1; stream = 0; body = [] }

unfoldable pub on_entries : Session → Asked → Session
on_entries s a =
    if widens s a then failed s 3
    else if is_flooded s then failed s 11
    else if is_interrupted s || a.is_wrong then failed s 1
    else acknowledged (record s { initial = a.initial; size_update = asked_update a.shrinks s.size_update }) settings_ack

unfoldable pub on_settings : Session → Whole → Session
on_settings s f =
    if is_set f.flags 1 then passed s
    else on_entries s (asked (blank_asked s.initial) (settings_of f.body))
