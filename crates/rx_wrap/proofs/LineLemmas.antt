-- Settings of one line after the other.
use Rattle.std.proofs.Common.{◌≡◌, ℕ, ◌+◌, ◌<◌, List, length, get_or, drop, sym, ap, ◌∙◌}
use Rattle.std.proofs.lemmas.List.{at_drop_more}
use Rattle.rx_base.specs.Results.{◌>>=◌}
use Rattle.rx_wrap.specs.Settings.{Setting}
use Rattle.rx_wrap.specs.ConfigFile.{settings_in_lines, with_line}

pub lines-drop : (all : List (List ℕ)) (settings : List Setting) (i : ℕ) (line : List ℕ) → (i < length all) × (line ≡ get_or all i line)
    → settings_in_lines settings (drop i all) ≡ (with_line settings line >>= λ next. settings_in_lines next (drop (i + 1) all))
unfolding settings_in_lines
lines-drop all settings i line h =
    at_drop_more (settings_in_lines settings) all i line h.0 ∙ ap (λ (p : List ℕ). with_line settings p >>= λ next. settings_in_lines next (drop (i + 1) all)) (sym h.1)
