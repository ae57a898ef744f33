-- Reading an entry of the static table.
use Rattle.std.proofs.Common.{◌≡◌, ℕ, ◌<◌, zero, suc, List, [], ◌∷◌, length, map, get_or, Some, refl, arith, slice_get}
use Rattle.std.specs.Borrow.{Bor}
use Rattle.rx_hpack.specs.StaticTable.{field_of}

pub get-map : (entries : List (Bor (List ℕ) × Bor (List ℕ))) (i : ℕ) (d : Bor (List ℕ) × Bor (List ℕ)) → i < length entries → slice_get (map field_of entries) i ≡ Some (field_of (get_or entries i d))
get-map [] i d lt = absurd (omega arith)
get-map (e ∷ es) zero d lt = refl
get-map (e ∷ es) (suc i) d lt = get-map es i d (omega (arith, lt))
