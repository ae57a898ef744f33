-- What the encoder writes stands for the list that it was given.
use Rattle.std.proofs.Common.{◌≡◌, ℕ, ◌+◌, ◌-◌, ◌/◌, ◌%◌, ◌^◌, ◌<◌, ◌≤◌, zero, suc, inl, inr, List, [], ◌∷◌, ◌++◌, length, get_or, position, All, Option, Some, None, Result, Ok, Err, refl, sym, ap, subst, ◌∙◌, append_assoc, arith, slice_get}
use Rattle.std.specs.Prelude.{IfOk}
use Rattle.std.specs.Option.{ok_or}
use Rattle.std.specs.Global.{Vec}
use Rattle.std.specs.List.{AllByRecursion}
use Rattle.std.specs.Str.{bytes_eq}
use Rattle.std.proofs.lemmas.Bool.{cases_lt, lt-ltb, le-ltb, ne_eqb, and_parts}
use Rattle.std.proofs.lemmas.List.{append-nil}
use Rattle.std.proofs.lemmas.List.Elements.{recursion_from_All}
use Rattle.std.proofs.lemmas.List.Quantifiers.{position-Some}
use Rattle.std.proofs.lemmas.Slice.Eq.{bytes_eq-Decides}
use Rattle.rx_hpack.specs.declared.fault.HpackFault.{HpackFault}
use Rattle.rx_hpack.specs.declared.fault.HpackFault.TheVariants.{BadIndex}
use Rattle.rx_hpack.specs.declared.header.Header.{Header}
use Rattle.rx_hpack.specs.declared.representation.Indexing.TheVariants.{Without}
use Rattle.rx_hpack.specs.Answers.{◌>>=◌}
use Rattle.rx_hpack.specs.Header.{Field, entry_size, size_of, view, views}
use Rattle.rx_hpack.specs.Integer.{groups_of, integer_bytes, IsGroups, IsInteger}
use Rattle.rx_hpack.specs.Text.{plain_bytes, IsString}
use Rattle.rx_hpack.specs.StaticTable.{static_fields, has_name, is_field}
use Rattle.rx_hpack.specs.DynamicTable.{Table}
use Rattle.rx_hpack.specs.Representation.{NameForm, IndexedName, NewName, Form, IndexedField, LiteralField, Spells, SpellsName}
use Rattle.rx_hpack.specs.Index.{field_at}
use Rattle.rx_hpack.specs.Decoder.{Progress, named, with_field, applied, AreSpelled, processed, IsBlock, block_of}
use Rattle.rx_hpack.specs.Encoder.{IsWritable, name_bytes, form_bytes, field_bytes, block_bytes}
use Rattle.rx_hpack.proofs.IntegerLemmas.{more_groups}
use Rattle.rx_hpack.proofs.WriteLemmas.{limit, groups_last, groups_more}
use Rattle.rx_hpack.proofs.IndexLemmas.{length-static_fields}
use Rattle.rx_hpack.proofs.HeaderListLemmas.{kept_fits}
use Rattle.rx_hpack.proofs.BlockLemmas.{block_is_read}
use Rattle.rx_hpack.proofs.TableLemmas.{size_of_last}

-- ---- integers and strings

groups_spelled : (more n : ℕ) → n < limit more → IsGroups (groups_of more n) n × (length (groups_of more n) ≤ suc more)
groups_spelled zero n fits =
    subst (λ (w : List ℕ). IsGroups w n × (length w ≤ 1)) (sym (groups_last zero n fits)) ((fits, refl), omega arith)
groups_spelled (suc more) n fits =
    elim (cases_lt n 128) [
      | inl lt ↦ subst (λ (w : List ℕ). IsGroups w n × (length w ≤ suc (suc more))) (sym (groups_last (suc more) n lt)) ((lt, refl), omega arith)
      | inr le ↦
          let h = groups_spelled more (n / 128) (omega (arith, fits)) in
          subst (λ (w : List ℕ). IsGroups w n × (length w ≤ suc (suc more))) (sym (groups_more more n le))
          (more_groups (n % 128 + 128) (groups_of more (n / 128)) n (n / 128) (omega arith) (omega arith) h.0, omega (arith, h.1))
    ]

integer_short : (full form n : ℕ) → n < full → integer_bytes full form n ≡ (form + n) ∷ []
unfolding integer_bytes
integer_short full form n lt = rw (lt-ltb n full lt) refl

integer_long : (full form n : ℕ) → full ≤ n → integer_bytes full form n ≡ (form + full) ∷ groups_of 4 (n - full)
unfolding integer_bytes
integer_long full form n le = rw (le-ltb n full le) refl

integer_spelled : (full form n : ℕ) → n < 2 ^ 32 → IsInteger full form (integer_bytes full form n) n
integer_spelled full form n fits =
    elim (cases_lt n full) [
      | inl lt ↦ inl (record { below = lt; spelled = integer_short full form n lt })
      | inr le ↦
          let g = groups_spelled 4 (n - full) (omega (arith, fits)) in
          inr (record { groups = groups_of 4 (n - full); spelled = integer_long full form n le; above = n - full; sum = omega arith; are_groups = g.0; short = g.1; fits = fits })
    ]

plain_spelled : (text : List ℕ) → length text < 2 ^ 32 → IsString (plain_bytes text) text
unfolding plain_bytes
plain_spelled text fits = inl (record { size = integer_bytes 127 0 (length text); is_size = integer_spelled 127 0 (length text) fits; spelled = refl })

-- ---- the static table

abbrev no_field : Field
no_field = record { name = []; value = [] }

slice_get-front : (front back : List Field) (i : ℕ) → i < length front → slice_get (front ++ back) i ≡ Some (get_or front i no_field)
slice_get-front [] back i lt = absurd (omega arith)
slice_get-front (field ∷ front) back zero lt = refl
slice_get-front (field ∷ front) back (suc i) lt = slice_get-front front back i (omega (arith, lt))

static_field_at : (table : Table) (place : ℕ) → place < length static_fields → field_at table (place + 1) ≡ Ok (get_or static_fields place no_field)
unfolding field_at
static_field_at table place lt =
    let other : place + 1 ≡ 0 → ⊥ = λ e. omega (arith, e) in
    let before : place + 1 - 1 ≡ place = omega arith in
    rw (ne_eqb (place + 1) 0 other) (ap (λ (i : ℕ). ok_or (slice_get (static_fields ++ table.entries) i) BadIndex) before
    ∙ ap (λ (o : Option Field). ok_or o BadIndex) (slice_get-front static_fields table.entries place lt))

-- ---- one field

-- a representation that gives the field, whatever the dynamic table
record FieldWritten (bytes : List ℕ) (field : Field) : Type 0 where
  read : Form
  spells : Spells read bytes
  gives : (fields : List Field) (table : Table) → applied fields table read ≡ with_field fields table Without field

record NameWritten (bytes name : List ℕ) : Type 0 where
  form : NameForm
  spells_name : SpellsName 15 0 form bytes
  gives : (table : Table) → named table form ≡ Ok name

applied_indexed : (fields : List Field) (table : Table) (index : ℕ) (field : Field) → field_at table index ≡ Ok field → applied fields table (IndexedField index) ≡ with_field fields table Without field
unfolding applied
applied_indexed fields table index field e = ap (λ (r : Result Field HpackFault). r >>= with_field fields table Without) e

applied_literal : (fields : List Field) (table : Table) (form : NameForm) (name value : List ℕ) → named table form ≡ Ok name → applied fields table (LiteralField Without form value) ≡ with_field fields table Without (record { name = name; value = value })
unfolding applied
applied_literal fields table form name value e = ap (λ (r : Result (List ℕ) HpackFault). r >>= λ name. with_field fields table Without (record { name = name; value = value })) e

name_written : (o : Option ℕ) (name : List ℕ) → position (has_name name) static_fields ≡ o → length name < 2 ^ 32 → NameWritten (name_bytes o name) name
unfolding name_bytes
name_written (Some place) name found fits =
    let p = position-Some (has_name name) static_fields place no_field found in
    let same : (get_or static_fields place no_field).name ≡ name = (bytes_eq-Decides (get_or static_fields place no_field).name name).0 p.1 in
    record {
      form = IndexedName (place + 1);
      spells_name = (omega arith, integer_spelled 15 0 (place + 1) (omega (arith, p.0, length-static_fields)));
      gives = λ table. ap (λ (r : Result Field HpackFault). r >>= λ field. Ok field.name) (static_field_at table place p.0) ∙ ap (λ (w : List ℕ). Ok w) same;
    }
name_written None name found fits =
    record { form = NewName name; spells_name = (plain_bytes name, refl, plain_spelled name fits); gives = λ table. refl }

form_written : (o : Option ℕ) (name value : List ℕ) → position (is_field name value) static_fields ≡ o → length name < 2 ^ 32 → length value < 2 ^ 32 → FieldWritten (form_bytes o name value) (record { name = name; value = value })
unfolding form_bytes
form_written (Some place) name value found fits fits_value =
    let p = position-Some (is_field name value) static_fields place no_field found in
    let field = get_or static_fields place no_field in
    let both = and_parts (bytes_eq field.name name) (bytes_eq field.value value) p.1 in
    let same_name : field.name ≡ name = (bytes_eq-Decides field.name name).0 both.0 in
    let same_value : field.value ≡ value = (bytes_eq-Decides field.value value).0 both.1 in
    let wanted : Field = record { name = name; value = value } in
    let same : field ≡ wanted = λ i. record { name = same_name i; value = same_value i } in
    record {
      read = IndexedField (place + 1);
      spells = integer_spelled 127 128 (place + 1) (omega (arith, p.0, length-static_fields));
      gives = λ fields table. applied_indexed fields table (place + 1) field (static_field_at table place p.0) ∙ ap (with_field fields table Without) same;
    }
form_written None name value found fits fits_value =
    let n = name_written (position (has_name name) static_fields) name refl fits in
    record {
      read = LiteralField Without n.form value;
      spells = record { front = name_bytes (position (has_name name) static_fields) name; back = plain_bytes value; spells_name = n.spells_name; is_value = plain_spelled value fits_value; spelled = refl };
      gives = λ fields table. applied_literal fields table n.form name value (n.gives table);
    }

-- ---- the list

record Written (fields : List Field) (table : Table) (bytes : List ℕ) (todo : List Field) : Type 0 where
  reads : List Form
  are_spelled : AreSpelled reads bytes
  gives : processed fields table reads ≡ Ok (record { fields = fields ++ todo; table = table })

abbrev progress : List Field → Table → Result Progress HpackFault
progress fields table = Ok (record { fields = fields; table = table })

with_field_fits : (fields : List Field) (table : Table) (field : Field) → size_of fields + entry_size field ≤ 65536 → with_field fields table Without field ≡ progress (fields ++ field ∷ []) table
with_field_fits fields table field fits =
    ap (λ (r : Result (List Field) HpackFault). r >>= λ more. progress more table) (kept_fits fields field (size_of fields) refl (omega (arith, fits)) (omega (arith, fits)))

block_written : (headers : List Header) (fields : List Field) (table : Table) → AllByRecursion IsWritable headers → size_of fields + size_of (views headers) ≤ 65536 → Written fields table (block_bytes (views headers)) (views headers)
block_written [] fields table writable fits =
    record { reads = []; are_spelled = refl; gives = ap (λ (f : List Field). progress f table) (sym (append-nil fields)) }
block_written (header ∷ headers) fields table writable fits =
    let field = view header in
    let w = form_written (position (is_field field.name field.value) static_fields) field.name field.value refl writable.0.0 writable.0.1 in
    let sum = size_of_last fields field in
    let more = block_written headers (fields ++ field ∷ []) table writable.1 (omega (arith, fits, sum)) in
    record {
      reads = w.read ∷ more.reads;
      are_spelled = (field_bytes field.name field.value, block_bytes (views headers), refl, w.spells, more.are_spelled);
      gives =
          ap (λ (r : Result Progress HpackFault). r >>= λ next. processed next.fields next.table more.reads) (w.gives fields table ∙ with_field_fits fields table field (omega (arith, fits)))
          ∙ more.gives
          ∙ ap (λ (f : List Field). progress f table) (append_assoc fields (field ∷ []) (views headers));
    }

is_block : (headers : List Header) (table : Table) → All IsWritable headers → size_of (views headers) ≤ 65536 → IsBlock table (block_bytes (views headers)) (views headers) table
is_block headers table writable fits =
    let w = block_written headers [] table (recursion_from_All IsWritable headers writable) (omega (arith, fits)) in
    record { reads = w.reads; are_spelled = w.are_spelled; gives = w.gives }

pub meant : {E : Type 0} (headers : List Header) (result : Result (Vec ℕ) E) → All IsWritable headers → IfOk result (λ block. block.items ≡ block_bytes (views headers)) → IfOk result (λ block. (table : Table) → size_of (views headers) ≤ 65536 → IsBlock table block.items (views headers) table)
meant headers (Ok block) writable written = λ table fits. subst (λ (w : List ℕ). IsBlock table w (views headers) table) (sym written) (is_block headers table writable fits)
meant headers (Err e) writable written = tt

pub read_back : {E : Type 0} (headers : List Header) (result : Result (Vec ℕ) E) → All IsWritable headers → IfOk result (λ block. block.items ≡ block_bytes (views headers)) → IfOk result (λ block. (table : Table) → size_of (views headers) ≤ 65536 → block_of table block.items ≡ Ok (record { fields = views headers; table = table }))
read_back headers (Ok block) writable written = λ table fits. ap (block_of table) written ∙ block_is_read table (block_bytes (views headers)) (views headers) table (is_block headers table writable fits)
read_back headers (Err e) writable written = tt
