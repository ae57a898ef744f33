-- What is read as a field is spelled so, and what is spelled so is read.
use Rattle.std.proofs.Common.{◌≡◌, ℕ, ◌+◌, ◌-◌, ◌*◌, ◌/◌, ◌%◌, ◌^◌, ◌<◌, ◌≤◌, inl, inr, false, cond, List, [], ◌∷◌, ◌++◌, length, take, drop, Option, Some, None, Result, Ok, Err, nat_lt, ◌==◌, refl, sym, ap, ◌∙◌, arith, lit<, subst, append_assoc}
use Rattle.std.specs.Prelude.{IfOk, OnOk}
use Rattle.std.specs.Int.{w32, w64, from_le_bytes}
use Rattle.std.proofs.lemmas.Bool.{le-ltb, ltb-false, eqb-false, ne_eqb}
use Rattle.std.proofs.lemmas.Bool.Decides.{nat_tests}
use Rattle.std.proofs.lemmas.List.{drop-drop, drop_at, take_at, take-append-drop, length-append, length-drop, length-take-le}
use Rattle.rx_wire.specs.declared.faults.WireFault.{WireFault}
use Rattle.rx_wire.specs.declared.faults.WireFault.TheVariants.{Truncated, BadType, ZeroField}
use Rattle.rx_wire.specs.declared.values.Kind.{Kind}
use Rattle.rx_wire.specs.declared.values.Kind.TheVariants as kinds
use Rattle.rx_wire.specs.Values.{kind_of, number_of}
use Rattle.rx_base.specs.Results.{◌>>=◌, Equals}
use Rattle.rx_wire.specs.Varints.{Spells, IsVarint, varint_at, shortest}
use Rattle.rx_wire.specs.Out.{Appends, varint_field, bytes_field}
use Rattle.rx_wire.specs.Cursor.{Cursor}
use Rattle.rx_base.proofs.ResultLemmas.{bind_ok}
use Rattle.rx_wire.specs.declared.values.Value.{Value}
use Rattle.rx_wire.specs.declared.values.Value.TheVariants as values
use Rattle.rx_wire.specs.Values.{Content, varint, fixed64, bytes, fixed32, Field, field_of, kind_number}
use Rattle.rx_wire.specs.declared.found.Found.{Found}
use Rattle.rx_wire.specs.Found.{placed_of}
use Rattle.rx_wire.specs.Fields.{SpellsContent, SpellsField, Placed, placed, content_at, value_at, tagged_at, field_at, Reads, IsInside}
use Rattle.rx_wire.proofs.Grammar.{IsBytes, ok_is, chosen, Spans, Spans-then, Spans-take, number_stands, number_again, IsVarint-shortest}

-- ---- what is read

-- the bytes of a value that was read at an offset
pub record IsValueAt (all : List ℕ) (start end : ℕ) (kind : Kind) (content : Content) : Type 0 where
  pub text : List ℕ
  pub spans : Spans all start end text
  pub spelled : SpellsContent content text
  pub kind_is : kind_number content ≡ number_of kind

abbrev ValueFound : List ℕ → ℕ → Kind → Content × ℕ → Type 0
ValueFound all start kind v = IsValueAt all start v.1 kind v.0

fixed_stands : (all : List ℕ) (at start n : ℕ) (kind : Kind) (content : Content) (found : Content × ℕ)
    → (length (take n (drop start all)) ≡ n → SpellsContent content (take n (drop start all))) → kind_number content ≡ number_of kind
    → cond (nat_lt (length all - start) n) (Err (Truncated at)) (Ok (content, start + n)) ≡ Ok found → ValueFound all start kind found
fixed_stands all at start n kind content found spelled kind_is e =
    elim (chosen {A = Content × ℕ} (nat_lt (length all - start) n) (Err (Truncated at)) (Ok (content, start + n)) (Ok found) e) [
      | inl p ↦ absurd (cc (p.1))
      | inr p ↦
          let le : n ≤ length all - start = ltb-false _ _ p.0 in
          let size : length (take n (drop start all)) ≡ n = length-take-le n (drop start all) (omega (arith, length-drop start all)) in
          subst (λ (v : Content × ℕ). ValueFound all start kind v) (ok_is {A = Content × ℕ} (content, start + n) found p.1)
          (record { text = take n (drop start all); spans = Spans-take all start n le; spelled = spelled size; kind_is = kind_is })
    ]

value_stands : (all : List ℕ) (at start : ℕ) (kind : Kind) (found : Content × ℕ) → IsBytes all → value_at all at start kind ≡ Ok found → ValueFound all start kind found
unfolding value_at
value_stands all at start kinds.Varint found h e =
    let r = bind_ok (varint_at all start) (λ n. Ok (varint n.0, n.1)) found e in
    let s = number_stands all start r.0.0 r.0.1 h r.1 in
    subst (λ (v : Content × ℕ). ValueFound all start kinds.Varint v) (ok_is {A = Content × ℕ} (varint r.0.0, r.0.1) found r.2)
    (record { text = s.0; spans = s.1; spelled = s.2; kind_is = refl })
value_stands all at start kinds.Fixed64 found h e =
    fixed_stands all at start 8 kinds.Fixed64 (fixed64 (from_le_bytes w64 (take 8 (drop start all)))) found (λ size. (size, refl)) refl e
value_stands all at start kinds.Bytes found h e =
    let r = bind_ok (varint_at all start) (λ n. cond (nat_lt (length all - n.1) n.0) (Err (Truncated start)) (Ok (bytes (take n.0 (drop n.1 all)), n.1 + n.0))) found e in
    let s = number_stands all start r.0.0 r.0.1 h r.1 in
    elim (chosen {A = Content × ℕ} (nat_lt (length all - r.0.1) r.0.0) (Err (Truncated start)) (Ok (bytes (take r.0.0 (drop r.0.1 all)), r.0.1 + r.0.0)) (Ok found) r.2) [
      | inl p ↦ absurd (cc (p.1))
      | inr p ↦
          let le : r.0.0 ≤ length all - r.0.1 = ltb-false _ _ p.0 in
          let size : length (take r.0.0 (drop r.0.1 all)) ≡ r.0.0 = length-take-le r.0.0 (drop r.0.1 all) (omega (arith, length-drop r.0.1 all)) in
          subst (λ (v : Content × ℕ). ValueFound all start kinds.Bytes v) (ok_is {A = Content × ℕ} (bytes (take r.0.0 (drop r.0.1 all)), r.0.1 + r.0.0) found p.1)
          (record {
            text = s.0 ++ take r.0.0 (drop r.0.1 all);
            spans = Spans-then all start r.0.1 (r.0.1 + r.0.0) s.0 (take r.0.0 (drop r.0.1 all)) s.1 (Spans-take all r.0.1 r.0.0 le);
            spelled = (s.0, subst (λ (k : ℕ). IsVarint s.0 k) (sym size) s.2, refl);
            kind_is = refl;
          })
    ]
value_stands all at start kinds.Fixed32 found h e =
    fixed_stands all at start 4 kinds.Fixed32 (fixed32 (from_le_bytes w32 (take 4 (drop start all)))) found (λ size. (size, refl)) refl e

-- the kind of a tag is its remainder
kind_of-mod : (tag : ℕ) (kind : Kind) → kind_of tag ≡ Some kind → tag % 8 ≡ number_of kind
unfolding kind_of
kind_of-mod tag kinds.Varint e = grind (arith, nat_tests)
kind_of-mod tag kinds.Fixed64 e = grind (arith, nat_tests)
kind_of-mod tag kinds.Bytes e = grind (arith, nat_tests)
kind_of-mod tag kinds.Fixed32 e = grind (arith, nat_tests)

abbrev FieldFound : List ℕ → ℕ → Placed → Type 0
FieldFound all at v = Reads all at v.end v.field

tagged_stands : (all : List ℕ) (at start tag : ℕ) (front : List ℕ) (kind : Option Kind) (found : Placed) → IsBytes all → Spans all at start front → IsVarint front tag → tag < 2 ^ 32
    → kind_of tag ≡ kind → tagged_at all at start (tag / 8) kind ≡ Ok found → FieldFound all at found
unfolding tagged_at
tagged_stands all at start tag front None found h spans is lt k e = absurd (cc (e))
tagged_stands all at start tag front (Some kind) found h spans is lt k e =
    elim (chosen {A = Placed} (tag / 8 == 0) (Err (ZeroField at)) (value_at all at start kind >>= λ v. Ok (placed (tag / 8) start v)) (Ok found) e) [
      | inl p ↦ absurd (cc (p.1))
      | inr p ↦
          let r = bind_ok (value_at all at start kind) (λ v. Ok (placed (tag / 8) start v)) found p.1 in
          let v = value_stands all at start kind r.0 h r.1 in
          let some : tag / 8 ≡ 0 → ⊥ = eqb-false _ _ p.0 in
          let whole : tag ≡ tag / 8 * 8 + kind_number r.0.0 = rw (v.kind_is, ← kind_of-mod tag kind k) (omega arith) in
          subst (λ (w : Placed). FieldFound all at w) (ok_is {A = Placed} (placed (tag / 8) start r.0) found r.2)
          (record {
            text = front ++ v.text;
            parts = (Spans-then all at start r.0.1 front v.text spans v.spans).parts;
            size = (Spans-then all at start r.0.1 front v.text spans v.spans).size;
            spelled = record {
              tag = front;
              value = v.text;
              whole = refl;
              above = omega arith;
              below = omega arith;
              tag_is = subst (λ (n : ℕ). IsVarint front n) whole is;
              value_is = v.spelled;
            };
          })
    ]

pub field_stands : (all : List ℕ) (at : ℕ) (found : Placed) → IsBytes all → field_at all at ≡ Ok found → Reads all at found.end found.field
unfolding field_at
field_stands all at found h e =
    let r = bind_ok (varint_at all at) (λ tag. cond (nat_lt 4294967295 tag.0) (Err (BadType at)) (tagged_at all at tag.1 (tag.0 / 8) (kind_of tag.0))) found e in
    let s = number_stands all at r.0.0 r.0.1 h r.1 in
    elim (chosen {A = Placed} (nat_lt 4294967295 r.0.0) (Err (BadType at)) (tagged_at all at r.0.1 (r.0.0 / 8) (kind_of r.0.0)) (Ok found) r.2) [
      | inl p ↦ absurd (cc (p.1))
      | inr p ↦
          let le = ltb-false _ _ p.0 in
          tagged_stands all at r.0.1 r.0.0 s.0 (kind_of r.0.0) found h s.1 s.2 (omega arith) refl p.1
    ]

-- ---- what is spelled is read

abbrev kind_in : Content → Kind
kind_in (varint n) = kinds.Varint
kind_in (fixed64 n) = kinds.Fixed64
kind_in (bytes b) = kinds.Bytes
kind_in (fixed32 n) = kinds.Fixed32

kind_of-tag : (number : ℕ) (content : Content) → kind_of (number * 8 + kind_number content) ≡ Some (kind_in content)
unfolding kind_of
kind_of-tag number (varint n) = let m : (number * 8 + 0) % 8 ≡ 0 = omega arith in rw m refl
kind_of-tag number (fixed64 n) = let m : (number * 8 + 1) % 8 ≡ 1 = omega arith in rw m refl
kind_of-tag number (bytes b) = let m : (number * 8 + 2) % 8 ≡ 2 = omega arith in rw m refl
kind_of-tag number (fixed32 n) = let m : (number * 8 + 5) % 8 ≡ 5 = omega arith in rw m refl

kind_number-small : (content : Content) → kind_number content < 8
kind_number-small (varint n) = lit< tt
kind_number-small (fixed64 n) = lit< tt
kind_number-small (bytes b) = lit< tt
kind_number-small (fixed32 n) = lit< tt

pub after : (all : List ℕ) (at : ℕ) (text rest : List ℕ) → drop at all ≡ text ++ rest → drop (at + length text) all ≡ rest
after all at text rest e = sym (drop-drop (length text) at all) ∙ ap (drop (length text)) e ∙ drop_at text rest (length text) refl

room : (all : List ℕ) (at n : ℕ) (text rest : List ℕ) → drop at all ≡ text ++ rest → length text ≡ n → nat_lt (length all - at) n ≡ false
room all at n text rest e size =
    le-ltb _ _ (omega (arith, length-drop at all, length-append text rest, ap length e))

value_again : (all : List ℕ) (at start : ℕ) (content : Content) (text rest : List ℕ) → drop start all ≡ text ++ rest → SpellsContent content text
    → value_at all at start (kind_in content) ≡ Ok (content, start + length text)
unfolding value_at
value_again all at start (varint n) text rest e s = rw (number_again all start text rest n e s) refl
value_again all at start (fixed64 n) text rest e s =
    rw (room all start 8 text rest e s.0, e, take_at text rest 8 s.0, ← s.1, s.0) refl
value_again all at start (bytes b) text rest e s =
    let parts : drop start all ≡ s.0 ++ (b ++ rest) = e ∙ ap (λ (t : List ℕ). t ++ rest) s.2 ∙ append_assoc s.0 b rest in
    let begin = after all start s.0 (b ++ rest) parts in
    let sum : start + length s.0 + length b ≡ start + length text = rw s.2 (omega (arith, length-append s.0 b)) in
    rw (number_again all start s.0 (b ++ rest) (length b) parts s.1, room all (start + length s.0) (length b) b rest begin refl, begin, take_at b rest (length b) refl, sum) refl
value_again all at start (fixed32 n) text rest e s =
    rw (room all start 4 text rest e s.0, e, take_at text rest 4 s.0, ← s.1, s.0) refl

-- where a field stands that is spelled at an offset
abbrev pub place_of : (at : ℕ) (f : Field) (text : List ℕ) → SpellsField f text → Placed
place_of at f text s = record { field = f; behind_tag = at + length s.tag; content = content_at f.content (at + length s.tag) (at + length text); end = at + length text }

pub field_again : (all : List ℕ) (at : ℕ) (f : Field) (text rest : List ℕ) → drop at all ≡ text ++ rest → (s : SpellsField f text) → field_at all at ≡ Ok (place_of at f text s)
unfolding field_at tagged_at
field_again all at f text rest e s =
    let parts : drop at all ≡ s.tag ++ (s.value ++ rest) = e ∙ ap (λ (t : List ℕ). t ++ rest) s.whole ∙ append_assoc s.tag s.value rest in
    let begin = after all at s.tag (s.value ++ rest) parts in
    let small = kind_number-small f.content in
    let above = s.above in
    let below = s.below in
    let in_range : nat_lt 4294967295 (f.number * 8 + kind_number f.content) ≡ false = le-ltb _ _ (omega arith) in
    let number : (f.number * 8 + kind_number f.content) / 8 ≡ f.number = omega arith in
    let some : (f.number == 0) ≡ false = ne_eqb _ _ (omega arith) in
    let sum : at + length s.tag + length s.value ≡ at + length text = rw s.whole (omega (arith, length-append s.tag s.value)) in
    rw (number_again all at s.tag (s.value ++ rest) (f.number * 8 + kind_number f.content) parts s.tag_is, in_range, kind_of-tag f.number f.content, number, some, value_again all at (at + length s.tag) f.content s.value rest begin s.value_is, sum) refl

-- ---- what a call read

pub Reads-if : {X : Type 0} (all : List ℕ) (at : ℕ) (view : X → Placed) (r : Result X WireFault) → IsBytes all → Equals view r (field_at all at)
    → IfOk r (λ x. Reads all at (view x).end (view x).field)
Reads-if all at view (Ok x) h e = field_stands all at (view x) h e
Reads-if all at view (Err fault) h e = tt

pub Spells-some : (text : List ℕ) (n : ℕ) → Spells text n → 0 < length text
Spells-some [] n s = absurd s
Spells-some (b ∷ text) n s = omega arith

-- a field has at least one byte
pub SpellsField-some : (f : Field) (text : List ℕ) → SpellsField f text → 0 < length text
SpellsField-some f text s =
    let some = Spells-some s.tag (f.number * 8 + kind_number f.content) s.tag_is.spelled in
    rw s.whole (omega (arith, length-append s.tag s.value))

-- ---- the one field that is spelled

pub only_ok : (now : Cursor) (g : Placed) (f : Field) (text rest : List ℕ) → field_at now.bytes now.at ≡ Ok g → SpellsField f text → drop now.at now.bytes ≡ text ++ rest
    → (g.field ≡ f) × (g.end ≡ now.at + length text)
only_ok now g f text rest e s d =
    let same = ok_is {A = Placed} g (place_of now.at f text s) (sym e ∙ field_again now.bytes now.at f text rest d s) in
    (ap (λ (v : Placed). v.field) same, ap (λ (v : Placed). v.end) same)

pub only_err : (now : Cursor) (fault : WireFault) (f : Field) (text rest : List ℕ) → field_at now.bytes now.at ≡ Err fault → SpellsField f text → drop now.at now.bytes ≡ text ++ rest → ⊥
only_err now fault f text rest e s d = absurd (cc (sym e ∙ field_again now.bytes now.at f text rest d s))

pub only_end : (now : Cursor) (f : Field) (text rest : List ℕ) → now.at ≡ length now.bytes → SpellsField f text → drop now.at now.bytes ≡ text ++ rest → ⊥
only_end now f text rest e s d =
    let some = SpellsField-some f text s in
    omega (arith, ap length d, length-drop now.at now.bytes, length-append text rest)

-- ---- what is written

tag_small : (number : ℕ) → number < 2 ^ 29 → number * 8 + 2 < 2 ^ 64
tag_small number lt = omega arith

pub Appends-varint : (old new : List ℕ) (number value : ℕ) → 0 < number → number < 2 ^ 29 → value < 2 ^ 64 → new ≡ old ++ varint_field number value → Appends old new (record { number = number; content = varint value })
unfolding varint_field
Appends-varint old new number value above below fits e =
    let small = tag_small number below in
    let tag : number * 8 ≡ number * 8 + 0 = omega arith in
    record {
      text = varint_field number value;
      parts = e;
      spelled = record {
        tag = shortest (number * 8);
        value = shortest value;
        whole = refl;
        above = above;
        below = below;
        tag_is = subst (λ (n : ℕ). IsVarint (shortest (number * 8)) n) tag (IsVarint-shortest (number * 8) (omega arith));
        value_is = IsVarint-shortest value fits;
      };
    }

pub Appends-bytes : (old new : List ℕ) (number : ℕ) (value : List ℕ) → 0 < number → number < 2 ^ 29 → length value < 2 ^ 64 → new ≡ old ++ bytes_field number value → Appends old new (record { number = number; content = bytes value })
unfolding bytes_field
Appends-bytes old new number value above below fits e =
    record {
      text = bytes_field number value;
      parts = e;
      spelled = record {
        tag = shortest (number * 8 + 2);
        value = shortest (length value) ++ value;
        whole = append_assoc (shortest (number * 8 + 2)) (shortest (length value)) value;
        above = above;
        below = below;
        tag_is = IsVarint-shortest (number * 8 + 2) (tag_small number below);
        value_is = (shortest (length value), IsVarint-shortest (length value) fits, refl);
      };
    }

pub on_ok : {X E P Q : Type 0} (r : Result X E) → (P → Q) → OnOk r P → OnOk r Q
on_ok (Ok x) f h = f h
on_ok (Err e) f h = tt

-- ---- the content of bytes

-- the bytes up to the end of a field
take-spanned : (all : List ℕ) (at end : ℕ) (text : List ℕ) → at ≤ length all → drop at all ≡ text ++ drop end all → end ≡ at + length text → take end all ≡ take at all ++ text
take-spanned all at end text le parts size =
    let whole : all ≡ (take at all ++ text) ++ drop end all =
    sym (take-append-drop at all) ∙ ap (λ (t : List ℕ). take at all ++ t) parts ∙ sym (append_assoc (take at all) text (drop end all)) in
    let len : length (take at all ++ text) ≡ end = omega (arith, length-append (take at all) text, length-take-le at all le) in
    ap (take end) whole ∙ take_at (take at all ++ text) (drop end all) end len

inside_bytes : (all : List ℕ) (at number behind_tag content end : ℕ) (b : List ℕ) → IsBytes all → at ≤ length all
    → field_at all at ≡ Ok (record { field = record { number = number; content = bytes b }; behind_tag = behind_tag; content = content; end = end }) → drop content (take end all) ≡ b
inside_bytes all at number behind_tag content end b h le e =
    let f : Field = record { number = number; content = bytes b } in
    let p : Placed = record { field = f; behind_tag = behind_tag; content = content; end = end } in
    let r = field_stands all at p h e in
    let s = r.spelled in
    let same = ok_is {A = Placed} p (place_of at f r.text s) (sym e ∙ field_again all at f r.text (drop end all) r.parts s) in
    let content-is : content ≡ at + length r.text - length b = ap (λ (v : Placed). v.content) same in
    let front = take at all ++ (s.tag ++ s.value_is.0) in
    let text-is : r.text ≡ (s.tag ++ s.value_is.0) ++ b = s.whole ∙ ap (λ (t : List ℕ). s.tag ++ t) s.value_is.2 ∙ sym (append_assoc s.tag s.value_is.0 b) in
    let whole : take end all ≡ front ++ b =
    take-spanned all at end r.text le r.parts r.size ∙ ap (λ (t : List ℕ). take at all ++ t) text-is ∙ sym (append_assoc (take at all) (s.tag ++ s.value_is.0) b) in
    let size : length front ≡ content =
    omega (arith, length-append (take at all) (s.tag ++ s.value_is.0), length-take-le at all le, length-append (s.tag ++ s.value_is.0) b, ap length text-is) in
    ap (drop content) whole ∙ drop_at front b content size

inside_value : (all : List ℕ) (at number behind_tag content end : ℕ) (v : Value) → IsBytes all → at ≤ length all
    → field_at all at ≡ Ok (record { field = field_of number v; behind_tag = behind_tag; content = content; end = end }) → IsInside v all content end
inside_value all at number behind_tag content end (values.Varint n) h le e = tt
inside_value all at number behind_tag content end (values.Fixed64 n) h le e = tt
inside_value all at number behind_tag content end (values.Bytes b) h le e = inside_bytes all at number behind_tag content end b.now h le e
inside_value all at number behind_tag content end (values.Fixed32 n) h le e = tt

pub inside_if : (all : List ℕ) (at : ℕ) (r : Result Found WireFault) → IsBytes all → at ≤ length all → Equals placed_of r (field_at all at) → IfOk r (λ found. IsInside found.value all found.content found.end)
inside_if all at (Ok found) h le e = inside_value all at found.number found.behind_tag found.content found.end found.value h le e
inside_if all at (Err fault) h le e = tt
