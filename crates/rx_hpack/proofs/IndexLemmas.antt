-- Finding a field in the two tables.
use Rattle.std.proofs.Common.{◌≡◌, ℕ, ◌+◌, ◌-◌, ◌≤◌, suc, List, [], ◌∷◌, ◌++◌, length, Option, Some, None, Ok, Err, refl, sym, ap, ◌∙◌, arith, slice_get}
use Rattle.std.specs.Option.{ok_or}
use Rattle.rx_hpack.specs.declared.fault.HpackFault.TheVariants.{BadIndex}
use Rattle.rx_hpack.specs.Header.{Field, view}
use Rattle.rx_hpack.specs.declared.header.Header.{Header}
use Rattle.std.proofs.lemmas.Bool.{ne_eqb}
use Rattle.rx_hpack.specs.StaticTable.{static_fields}
use Rattle.rx_hpack.specs.DynamicTable.{Table}
use Rattle.rx_hpack.specs.Index.{field_at}

slice_get-append : (front back : List Field) (i : ℕ) → slice_get (front ++ back) (length front + i) ≡ slice_get back i
slice_get-append [] back i = ap (slice_get back) (omega arith)
slice_get-append (field ∷ front) back i =
    let e : length (field ∷ front) + i ≡ suc (length front + i) = omega arith in
    ap (slice_get (field ∷ (front ++ back))) e ∙ slice_get-append front back i

pub length-static_fields : length static_fields ≡ 61
unfolding static_fields
length-static_fields = refl

-- an index past the static table
field_behind : (table : Table) (index : ℕ) → 61 ≤ index - 1 → (index ≡ 0 → ⊥) → field_at table index ≡ ok_or (slice_get table.entries (index - 1 - 61)) BadIndex
unfolding field_at
field_behind table index le other =
    let e : index - 1 ≡ length static_fields + (index - 1 - 61) = omega (arith, length-static_fields) in
    rw (ne_eqb index 0 other) (ap (λ (i : ℕ). ok_or (slice_get (static_fields ++ table.entries) i) BadIndex) e
    ∙ ap (λ (o : Option Field). ok_or o BadIndex) (slice_get-append static_fields table.entries (index - 1 - 61)))

pub found_behind : (table : Table) (index : ℕ) (header : Header) (name value : List ℕ) → 61 ≤ index - 1 → (index ≡ 0 → ⊥) → Some (view header) ≡ slice_get table.entries (index - 1 - 61) → name ≡ header.name.items → value ≡ header.value.items → field_at table index ≡ Ok (record { name = name; value = value })
found_behind table index header name value le other entry is_name is_value =
    rw (is_name, is_value) (field_behind table index le other ∙ ap (λ (o : Option Field). ok_or o BadIndex) (sym entry))

pub none_behind : (table : Table) (index : ℕ) → 61 ≤ index - 1 → (index ≡ 0 → ⊥) → None ≡ slice_get table.entries (index - 1 - 61) → field_at table index ≡ Err BadIndex
none_behind table index le other entry = field_behind table index le other ∙ ap (λ (o : Option Field). ok_or o BadIndex) (sym entry)
