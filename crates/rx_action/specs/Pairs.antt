-- Names with values in their order (remote_execution.proto, Command.environment_variables, Platform.properties: "sorted by
-- name, and then by value. Sorting of strings is done by code point, equivalently, by the UTF-8 bytes").
use Rattle.std.specs.Prelude.{List, [], ◌∷◌, if◌then◌else◌}
use Rattle.std.specs.declared.cmp.Ordering.{Ordering}
use Rattle.std.specs.Ordering.{is_lt, nat_cmp, on, then_cmp}
use Rattle.std.specs.Cmp.Lexicographic.{slice_cmp}
use Rattle.rx_world.specs.declared.commands.Pair.{Pair}

-- by the bytes of the name, and then of the value
abbrev pub by_name : Pair → Pair → Ordering
by_name x y = then_cmp (on (λ (p : Pair). p.name) (slice_cmp nat_cmp)) (on (λ (p : Pair). p.value) (slice_cmp nat_cmp)) x y

-- an item put into an ordered list, before the first that isn't less
abbrev pub placed : {K : Type 0} → (K → K → Ordering) → K → List K → List K
placed compare item [] = item ∷ []
placed compare item (other ∷ others) =
    if is_lt (compare other item) then other ∷ placed compare item others else item ∷ other ∷ others

-- the items of a list in order, as often as they come
abbrev pub in_order : {K : Type 0} → (K → K → Ordering) → List K → List K
in_order compare [] = []
in_order compare (item ∷ items) = placed compare item (in_order compare items)

abbrev pub sorted_pairs : List Pair → List Pair
sorted_pairs pairs = in_order by_name pairs
