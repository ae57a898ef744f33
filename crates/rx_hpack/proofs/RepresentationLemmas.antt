-- A representation that is read is spelled so, and one that is spelled is read.
use Rattle.std.proofs.Common.{◌≡◌, ℕ, ◌+◌, ◌-◌, ◌<◌, ◌≤◌, inl, inr, List, [], ◌∷◌, ◌++◌, Result, Ok, refl, sym, ap, subst, ◌∙◌, append_assoc, zero-add, add-zero, arith}
use Rattle.std.proofs.lemmas.Bool.{cases_lt, lt-ltb, le-ltb}
use Rattle.rx_hpack.specs.declared.fault.HpackFault.{HpackFault}
use Rattle.rx_hpack.specs.declared.representation.Indexing.{Indexing}
use Rattle.rx_hpack.specs.declared.representation.Indexing.TheVariants.{Incremental, Without, Never}
use Rattle.rx_hpack.specs.Answers.{◌>>=◌}
use Rattle.rx_hpack.specs.Integer.{integer_at, IsInteger}
use Rattle.rx_hpack.specs.Text.{string_at}
use Rattle.rx_hpack.specs.Header.{Field}
use Rattle.rx_hpack.specs.DynamicTable.{Table}
use Rattle.rx_hpack.specs.Index.{field_at}
use Rattle.rx_hpack.specs.Decoder.{named}
use Rattle.rx_hpack.specs.Representation.{NameForm, IndexedName, NewName, Form, IndexedField, LiteralField, NewSize, name_at, literal_at, indexed_at, size_at, representation_at, SpellsName, SpellsLiteral, form_of, prefix_of, Spells}
use Rattle.rx_hpack.proofs.Takes.{IsBytes, bind_ok, ok_is}
use Rattle.rx_hpack.proofs.IntegerLemmas.{integer_takes, integer_again}
use Rattle.rx_hpack.proofs.TextLemmas.{string_takes, string_again}

-- ---- names

-- The name is one of its own, or its index stands for a field.
abbrev IsNamed : Table → NameForm → Type 0
IsNamed table name = (text : List ℕ) × (named table name ≡ Ok text)

record NameTaken (table : Table) (full form prefix : ℕ) (bytes : List ℕ) (name : NameForm) (rest : List ℕ) : Type 0 where
  front : List ℕ
  spells_name : SpellsName full form name front
  is_named : IsNamed table name
  parts : (form + prefix) ∷ bytes ≡ front ++ rest
  rest_fits : IsBytes rest

abbrev new_name : List ℕ × List ℕ → Result (NameForm × List ℕ) HpackFault
new_name name = Ok (NewName name.0, name.1)

abbrev indexed_name : ℕ → List ℕ → Field → Result (NameForm × List ℕ) HpackFault
indexed_name index bytes field = Ok (IndexedName index, bytes)

name_indexed : (table : Table) (index : ℕ) (bytes : List ℕ) → 0 < index → name_at table index bytes ≡ (field_at table index >>= indexed_name index bytes)
unfolding name_at
name_indexed table index bytes lt = rw (lt-ltb 0 index lt) refl

name_new : (table : Table) (bytes : List ℕ) → name_at table 0 bytes ≡ (string_at bytes >>= new_name)
unfolding name_at
name_new table bytes = refl

-- what an integer of 0 takes: the prefix alone, where it isn't full at 0
zero_taken : (full form : ℕ) (text : List ℕ) → 0 < full → IsInteger full form text 0 → text ≡ form ∷ []
zero_taken full form text lt (inl h) = h.spelled ∙ ap (λ (k : ℕ). k ∷ []) (add-zero form)
zero_taken full form text lt (inr h) = absurd (omega (arith, h.sum, lt))

name_takes : (table : Table) (full form prefix : ℕ) (bytes : List ℕ) (index : ℕ × List ℕ) (x : NameForm × List ℕ) → 0 < full → prefix ≤ full → IsBytes bytes → integer_at full prefix bytes ≡ Ok index → name_at table index.0 index.1 ≡ Ok x → NameTaken table full form prefix bytes x.0 x.1
name_takes table full form prefix bytes index x lt small fits e f =
    let t = integer_takes full form prefix bytes index small fits e in
    elim (cases_lt 0 index.0) [
      | inl positive ↦
          let found = bind_ok (field_at table index.0) (indexed_name index.0 index.1) x (sym (name_indexed table index.0 index.1 positive) ∙ f) in
          subst (λ (y : NameForm × List ℕ). NameTaken table full form prefix bytes y.0 y.1) (ok_is (IndexedName index.0, index.1) x found.2)
          (record {
            front = t.text;
            spells_name = (positive, t.is_integer);
            is_named = (found.0.name, ap (λ (r : Result Field HpackFault). r >>= λ field. Ok field.name) found.1);
            parts = t.parts;
            rest_fits = t.rest_fits;
          })
      | inr le ↦
          let none : index.0 ≡ 0 = omega arith in
          let h = bind_ok (string_at index.1) new_name x (sym (name_new table index.1) ∙ ap (λ (k : ℕ). name_at table k index.1) (sym none) ∙ f) in
          let s = string_takes index.1 h.0 t.rest_fits h.1 in
          let alone : t.text ≡ form ∷ [] = zero_taken full form t.text lt (subst (IsInteger full form t.text) none t.is_integer) in
          subst (λ (y : NameForm × List ℕ). NameTaken table full form prefix bytes y.0 y.1) (ok_is (NewName h.0.0, h.0.1) x h.2)
          (record {
            front = form ∷ s.front;
            spells_name = (s.front, refl, s.is_string);
            is_named = (h.0.0, refl);
            parts = t.parts ∙ ap (λ (w : List ℕ). w ++ index.1) alone ∙ ap (λ (w : List ℕ). form ∷ w) s.parts;
            rest_fits = s.rest_fits;
          })
    ]

record NameAgain (table : Table) (full form : ℕ) (front : List ℕ) (name : NameForm) (rest : List ℕ) : Type 0 where
  prefix : ℕ
  more : List ℕ
  index : ℕ × List ℕ
  small : prefix ≤ full
  spelled : front ≡ (form + prefix) ∷ more
  integer : integer_at full prefix (more ++ rest) ≡ Ok index
  again : name_at table index.0 index.1 ≡ Ok (name, rest)

zero_again : (full : ℕ) (bytes : List ℕ) → 0 < full → integer_at full 0 bytes ≡ Ok (0, bytes)
unfolding integer_at
zero_again full bytes lt = rw (lt-ltb 0 full lt) refl

name_again : (table : Table) (full form : ℕ) (front : List ℕ) (name : NameForm) (rest : List ℕ) → 0 < full → SpellsName full form name front → IsNamed table name → NameAgain table full form front name rest
name_again table full form front (IndexedName index) rest lt h known =
    let a = integer_again full form front index rest h.1 in
    let found = bind_ok (field_at table index) (λ field. Ok field.name) known.0 known.1 in
    record {
      prefix = a.prefix;
      more = a.more;
      index = (index, rest);
      small = a.small;
      spelled = a.spelled;
      integer = a.again;
      again = name_indexed table index rest h.0 ∙ ap (λ (r : Result Field HpackFault). r >>= indexed_name index rest) found.1;
    }
name_again table full form front (NewName name) rest lt h known =
    record {
      prefix = 0;
      more = h.0;
      index = (0, h.0 ++ rest);
      small = omega arith;
      spelled = h.1 ∙ ap (λ (k : ℕ). k ∷ h.0) (sym (add-zero form));
      integer = zero_again full (h.0 ++ rest) lt;
      again = name_new table (h.0 ++ rest) ∙ ap (λ (r : Result (List ℕ × List ℕ) HpackFault). r >>= new_name) (string_again h.0 name rest h.2);
    }

-- ---- literal fields

record LiteralTaken (table : Table) (indexing : Indexing) (full form prefix : ℕ) (bytes : List ℕ) (read : Form) (rest : List ℕ) : Type 0 where
  name : NameForm
  value : List ℕ
  is_literal : read ≡ LiteralField indexing name value
  is_named : IsNamed table name
  text : List ℕ
  spells : SpellsLiteral full form name value text
  parts : (form + prefix) ∷ bytes ≡ text ++ rest
  rest_fits : IsBytes rest

abbrev with_value : Indexing → NameForm × List ℕ → Result (Form × List ℕ) HpackFault
with_value indexing name = string_at name.1 >>= λ value. Ok (LiteralField indexing name.0 value.0, value.1)

abbrev with_name : Table → Indexing → ℕ × List ℕ → Result (Form × List ℕ) HpackFault
with_name table indexing index = name_at table index.0 index.1 >>= with_value indexing

literal_is : (table : Table) (indexing : Indexing) (full prefix : ℕ) (bytes : List ℕ) → literal_at table indexing full prefix bytes ≡ (integer_at full prefix bytes >>= with_name table indexing)
unfolding literal_at
literal_is table indexing full prefix bytes = refl

literal_takes : (table : Table) (indexing : Indexing) (full form prefix : ℕ) (bytes : List ℕ) (x : Form × List ℕ) → 0 < full → prefix ≤ full → IsBytes bytes → literal_at table indexing full prefix bytes ≡ Ok x → LiteralTaken table indexing full form prefix bytes x.0 x.1
literal_takes table indexing full form prefix bytes x lt small fits e =
    let h = bind_ok (integer_at full prefix bytes) (with_name table indexing) x (sym (literal_is table indexing full prefix bytes) ∙ e) in
    let n = bind_ok (name_at table h.0.0 h.0.1) (with_value indexing) x h.2 in
    let v = bind_ok (string_at n.0.1) (λ value. Ok (LiteralField indexing n.0.0 value.0, value.1)) x n.2 in
    let t = name_takes table full form prefix bytes h.0 n.0 lt small fits h.1 n.1 in
    let s = string_takes n.0.1 v.0 t.rest_fits v.1 in
    let whole : (form + prefix) ∷ bytes ≡ t.front ++ (s.front ++ v.0.1) = t.parts ∙ ap (λ (w : List ℕ). t.front ++ w) s.parts in
    subst (λ (y : Form × List ℕ). LiteralTaken table indexing full form prefix bytes y.0 y.1) (ok_is (LiteralField indexing n.0.0 v.0.0, v.0.1) x v.2)
    (record {
      name = n.0.0;
      value = v.0.0;
      is_literal = refl;
      is_named = t.is_named;
      text = t.front ++ s.front;
      spells = record { front = t.front; back = s.front; spells_name = t.spells_name; is_value = s.is_string; spelled = refl };
      parts = whole ∙ sym (append_assoc t.front s.front v.0.1);
      rest_fits = s.rest_fits;
    })

record LiteralAgain (table : Table) (indexing : Indexing) (full form : ℕ) (name : NameForm) (value text rest : List ℕ) : Type 0 where
  prefix : ℕ
  more : List ℕ
  small : prefix ≤ full
  spelled : text ≡ (form + prefix) ∷ more
  again : literal_at table indexing full prefix (more ++ rest) ≡ Ok (LiteralField indexing name value, rest)

literal_again : (table : Table) (indexing : Indexing) (full form : ℕ) (name : NameForm) (value text rest : List ℕ) → 0 < full → SpellsLiteral full form name value text → IsNamed table name → LiteralAgain table indexing full form name value text rest
literal_again table indexing full form name value text rest lt h known =
    let a = name_again table full form h.front name (h.back ++ rest) lt h.spells_name known in
    record {
      prefix = a.prefix;
      more = a.more ++ h.back;
      small = a.small;
      spelled = h.spelled ∙ ap (λ (w : List ℕ). w ++ h.back) a.spelled;
      again =
          literal_is table indexing full a.prefix ((a.more ++ h.back) ++ rest)
          ∙ ap (λ (w : List ℕ). integer_at full a.prefix w >>= with_name table indexing) (append_assoc a.more h.back rest)
          ∙ ap (λ (r : Result (ℕ × List ℕ) HpackFault). r >>= with_name table indexing) a.integer
          ∙ ap (λ (r : Result (NameForm × List ℕ) HpackFault). r >>= with_value indexing) a.again
          ∙ ap (λ (r : Result (List ℕ × List ℕ) HpackFault). r >>= λ value. Ok (LiteralField indexing name value.0, value.1)) (string_again h.back value rest h.is_value);
    }

-- ---- the dispatch on the first byte

first_without : (table : Table) (first : ℕ) (bytes : List ℕ) → first < 16 → representation_at table first bytes ≡ literal_at table Without 15 first bytes
unfolding representation_at
first_without table first bytes lt = rw (lt-ltb first 16 lt) refl

first_never : (table : Table) (first : ℕ) (bytes : List ℕ) → 16 ≤ first → first < 32 → representation_at table first bytes ≡ literal_at table Never 15 (first - 16) bytes
unfolding representation_at
first_never table first bytes le lt = rw (le-ltb first 16 le, lt-ltb first 32 lt) refl

first_size : (table : Table) (first : ℕ) (bytes : List ℕ) → 32 ≤ first → first < 64 → representation_at table first bytes ≡ size_at (first - 32) bytes
unfolding representation_at
first_size table first bytes le lt = rw (le-ltb first 16 (omega arith), le-ltb first 32 le, lt-ltb first 64 lt) refl

first_incremental : (table : Table) (first : ℕ) (bytes : List ℕ) → 64 ≤ first → first < 128 → representation_at table first bytes ≡ literal_at table Incremental 63 (first - 64) bytes
unfolding representation_at
first_incremental table first bytes le lt = rw (le-ltb first 16 (omega arith), le-ltb first 32 (omega arith), le-ltb first 64 le, lt-ltb first 128 lt) refl

first_indexed : (table : Table) (first : ℕ) (bytes : List ℕ) → 128 ≤ first → representation_at table first bytes ≡ indexed_at (first - 128) bytes
unfolding representation_at
first_indexed table first bytes le = rw (le-ltb first 16 (omega arith), le-ltb first 32 (omega arith), le-ltb first 64 (omega arith), le-ltb first 128 le) refl

-- ---- representations

abbrev pub IsFormNamed : Table → Form → Type 0
IsFormNamed table (LiteralField indexing name value) = IsNamed table name
IsFormNamed table (IndexedField index) = Unit {0}
IsFormNamed table (NewSize size) = Unit {0}

pub record Taken (table : Table) (bytes : List ℕ) (read : Form) (rest : List ℕ) : Type 0 where
  pub text : List ℕ
  pub spells : Spells read text
  pub is_named : IsFormNamed table read
  pub parts : bytes ≡ text ++ rest
  pub rest_fits : IsBytes rest

taken_literal : (table : Table) (indexing : Indexing) (first prefix : ℕ) (bytes : List ℕ) (read : Form) (rest : List ℕ) → form_of indexing + prefix ≡ first → LiteralTaken table indexing (prefix_of indexing) (form_of indexing) prefix bytes read rest → Taken table (first ∷ bytes) read rest
taken_literal table indexing first prefix bytes read rest is t =
    subst (λ (y : Form). Taken table (first ∷ bytes) y rest) (sym t.is_literal)
    (record { text = t.text; spells = t.spells; is_named = t.is_named; parts = ap (λ (b : ℕ). b ∷ bytes) (sym is) ∙ t.parts; rest_fits = t.rest_fits })

taken_size : (table : Table) (first : ℕ) (bytes : List ℕ) (x : Form × List ℕ) → 32 ≤ first → first < 64 → IsBytes bytes → size_at (first - 32) bytes ≡ Ok x → Taken table (first ∷ bytes) x.0 x.1
taken_size table first bytes x le lt fits e =
    let h = bind_ok (integer_at 31 (first - 32) bytes) (λ size. Ok (NewSize size.0, size.1)) x e in
    let t = integer_takes 31 32 (first - 32) bytes h.0 (omega arith) fits h.1 in
    let first-is : 32 + (first - 32) ≡ first = omega arith in
    subst (λ (y : Form × List ℕ). Taken table (first ∷ bytes) y.0 y.1) (ok_is (NewSize h.0.0, h.0.1) x h.2)
    (record { text = t.text; spells = t.is_integer; is_named = tt; parts = ap (λ (b : ℕ). b ∷ bytes) (sym first-is) ∙ t.parts; rest_fits = t.rest_fits })

taken_indexed : (table : Table) (first : ℕ) (bytes : List ℕ) (x : Form × List ℕ) → 128 ≤ first → first < 256 → IsBytes bytes → indexed_at (first - 128) bytes ≡ Ok x → Taken table (first ∷ bytes) x.0 x.1
taken_indexed table first bytes x le lt fits e =
    let h = bind_ok (integer_at 127 (first - 128) bytes) (λ index. Ok (IndexedField index.0, index.1)) x e in
    let t = integer_takes 127 128 (first - 128) bytes h.0 (omega arith) fits h.1 in
    let first-is : 128 + (first - 128) ≡ first = omega arith in
    subst (λ (y : Form × List ℕ). Taken table (first ∷ bytes) y.0 y.1) (ok_is (IndexedField h.0.0, h.0.1) x h.2)
    (record { text = t.text; spells = t.is_integer; is_named = tt; parts = ap (λ (b : ℕ). b ∷ bytes) (sym first-is) ∙ t.parts; rest_fits = t.rest_fits })

pub representation_takes : (table : Table) (first : ℕ) (bytes : List ℕ) (x : Form × List ℕ) → first < 256 → IsBytes bytes → representation_at table first bytes ≡ Ok x → Taken table (first ∷ bytes) x.0 x.1
representation_takes table first bytes x byte fits e =
    elim (cases_lt first 16) [
      | inl a ↦ taken_literal table Without first first bytes x.0 x.1 (zero-add first) (literal_takes table Without 15 0 first bytes x (omega arith) (omega arith) fits (sym (first_without table first bytes a) ∙ e))
      | inr a ↦
          elim (cases_lt first 32) [
            | inl b ↦ taken_literal table Never first (first - 16) bytes x.0 x.1 (omega arith) (literal_takes table Never 15 16 (first - 16) bytes x (omega arith) (omega arith) fits (sym (first_never table first bytes a b) ∙ e))
            | inr b ↦
                elim (cases_lt first 64) [
                  | inl c ↦ taken_size table first bytes x b c fits (sym (first_size table first bytes b c) ∙ e)
                  | inr c ↦
                      elim (cases_lt first 128) [
                        | inl d ↦ taken_literal table Incremental first (first - 64) bytes x.0 x.1 (omega arith) (literal_takes table Incremental 63 64 (first - 64) bytes x (omega arith) (omega arith) fits (sym (first_incremental table first bytes c d) ∙ e))
                        | inr d ↦ taken_indexed table first bytes x d byte fits (sym (first_indexed table first bytes d) ∙ e)
                      ]
                ]
          ]
    ]

pub record Again (table : Table) (read : Form) (text rest : List ℕ) : Type 0 where
  pub first : ℕ
  pub more : List ℕ
  pub spelled : text ≡ first ∷ more
  pub again : representation_at table first (more ++ rest) ≡ Ok (read, rest)

again_literal : (table : Table) (indexing : Indexing) (name : NameForm) (value text rest : List ℕ) (a : LiteralAgain table indexing (prefix_of indexing) (form_of indexing) name value text rest) → representation_at table (form_of indexing + a.prefix) (a.more ++ rest) ≡ literal_at table indexing (prefix_of indexing) a.prefix (a.more ++ rest) → Again table (LiteralField indexing name value) text rest
again_literal table indexing name value text rest a e = record { first = form_of indexing + a.prefix; more = a.more; spelled = a.spelled; again = e ∙ a.again }

literal_form : (table : Table) (indexing : Indexing) (prefix : ℕ) (bytes : List ℕ) → prefix ≤ prefix_of indexing → representation_at table (form_of indexing + prefix) bytes ≡ literal_at table indexing (prefix_of indexing) prefix bytes
literal_form table Without prefix bytes small =
    let is : 0 + prefix ≡ prefix = zero-add prefix in
    ap (λ (b : ℕ). representation_at table b bytes) is ∙ first_without table prefix bytes (omega (arith, small))
literal_form table Never prefix bytes small =
    let is : 16 + prefix - 16 ≡ prefix = omega arith in
    first_never table (16 + prefix) bytes (omega arith) (omega (arith, small)) ∙ ap (λ (k : ℕ). literal_at table Never 15 k bytes) is
literal_form table Incremental prefix bytes small =
    let is : 64 + prefix - 64 ≡ prefix = omega arith in
    first_incremental table (64 + prefix) bytes (omega arith) (omega (arith, small)) ∙ ap (λ (k : ℕ). literal_at table Incremental 63 k bytes) is

positive_prefix : (indexing : Indexing) → 0 < prefix_of indexing
positive_prefix Without = omega arith
positive_prefix Never = omega arith
positive_prefix Incremental = omega arith

pub representation_again : (table : Table) (read : Form) (text rest : List ℕ) → Spells read text → IsFormNamed table read → Again table read text rest
representation_again table (LiteralField indexing name value) text rest h known =
    let a = literal_again table indexing (prefix_of indexing) (form_of indexing) name value text rest (positive_prefix indexing) h known in
    again_literal table indexing name value text rest a (literal_form table indexing a.prefix (a.more ++ rest) a.small)
representation_again table (NewSize size) text rest h known =
    let a = integer_again 31 32 text size rest h in
    let is : 32 + a.prefix - 32 ≡ a.prefix = omega arith in
    record {
      first = 32 + a.prefix;
      more = a.more;
      spelled = a.spelled;
      again = first_size table (32 + a.prefix) (a.more ++ rest) (omega arith) (omega (arith, a.small)) ∙ ap (λ (k : ℕ). size_at k (a.more ++ rest)) is
          ∙ ap (λ (r : Result (ℕ × List ℕ) HpackFault). r >>= λ size. Ok (NewSize size.0, size.1)) a.again;
    }
representation_again table (IndexedField index) text rest h known =
    let a = integer_again 127 128 text index rest h in
    let is : 128 + a.prefix - 128 ≡ a.prefix = omega arith in
    record {
      first = 128 + a.prefix;
      more = a.more;
      spelled = a.spelled;
      again = first_indexed table (128 + a.prefix) (a.more ++ rest) (omega arith) ∙ ap (λ (k : ℕ). indexed_at k (a.more ++ rest)) is
          ∙ ap (λ (r : Result (ℕ × List ℕ) HpackFault). r >>= λ index. Ok (IndexedField index.0, index.1)) a.again;
    }
