-- Values of several items: texts by comma, and pairs NAME=VALUE.
use Rattle.std.specs.Prelude.{ℕ, List, [], ◌==◌, length, map, Option, Some, None, if◌then◌else◌}
use Rattle.std.specs.List.{list_all, slice_split}
use Rattle.rx_world.specs.declared.commands.Pair.{Pair}
use Rattle.rx_wrap.specs.Cuts.{after, before, equals_sign, has}

-- the texts between commas; the empty text has none
unfoldable pub listed : List ℕ → List (List ℕ)
listed text = if length text == 0 then [] else slice_split (λ b. b == 44) text

-- NAME=VALUE
abbrev pub pair_of : List ℕ → Pair
pair_of text = record { name = before equals_sign text; value = after equals_sign text }

-- the pairs that texts are, where each has an equals sign
unfoldable pub pairs_of : List (List ℕ) → Option (List Pair)
pairs_of texts = if list_all (has equals_sign) texts then Some (map pair_of texts) else None
