-- Bytes are a message of some parts exactly where nothing in them is refused.
use Rattle.std.proofs.Common.{◌≡◌, ℕ, zero, suc, ◌+◌, ◌-◌, ◌≤◌, ◌==◌, true, false, List, [], ◌∷◌, ◌++◌, length, drop, take, Result, Ok, Err, refl, sym, ap, ◌∙◌, arith, subst, eq-eqb, length-append, append_assoc}
use Rattle.std.proofs.lemmas.Bool.{ne_eqb, eqb-true}
use Rattle.std.proofs.lemmas.List.{drop_all, drop-take, length-drop, length-take-le, take_at}
use Rattle.std.specs.List.{AllByRecursion, concat}
use Rattle.std.specs.Str.{IsUtf8, is_utf8}
use Rattle.std.proofs.lemmas.Str.{IsUtf8-from_is_utf8, is_utf8-from_IsUtf8}
use Rattle.rx_base.proofs.Lists.{All-append}
use Rattle.rx_wire.specs.declared.faults.WireFault.TheVariants.{BadUtf8}
use Rattle.rx_base.proofs.ResultLemmas.{bind_ok}
use Rattle.rx_base.specs.Results.{◌>>=◌}
use Rattle.rx_wire.specs.declared.faults.WireFault.{WireFault}
use Rattle.rx_wire.specs.Values.{Content, varint, fixed64, bytes, fixed32, Field}
use Rattle.rx_wire.specs.Fields.{Placed, Reads, SpellsContent, SpellsFields, content_at, field_at}
use Rattle.rx_wire.proofs.Grammar.{IsBytes, ok_is}
use Rattle.rx_wire.proofs.FieldLaws.{SpellsField-some, after, field_again, field_stands, place_of}
use Rattle.rx_codec.proofs.FieldRead.{fields_in-spelled}
use Rattle.rx_codec.specs.FieldBytes.{fields_in}
use Rattle.rx_codec.specs.Parts.{Part, anything, text, message, HasParts, IsPart, IsMessage, SpellsEach, field_checked, fields_checked, part_checked, parts_checked, text_checked}

-- ---- bytes

IsBytes-take : (n : ℕ) (xs : List ℕ) → IsBytes xs → IsBytes (take n xs)
IsBytes-take zero xs h i = omega arith
IsBytes-take (suc n) [] h i = omega arith
IsBytes-take (suc n) (x ∷ xs) h zero = h zero
IsBytes-take (suc n) (x ∷ xs) h (suc i) = IsBytes-take n xs (λ k. h (suc k)) i

-- ---- fields in a row

-- where each field passes, all do
fields_pass : (check : Placed → Result (Unit {0}) WireFault) (Meets : Field → Type 0) (all : List ℕ)
    → ((at : ℕ) (p : Placed) → at ≤ length all → field_at all at ≡ Ok p → Reads all at p.end p.field → Meets p.field → check p ≡ Ok tt)
    → (fs : List Field) (most at : ℕ) → at ≤ length all → SpellsFields fs (drop at all) → AllByRecursion Meets fs → fields_checked check most all at ≡ Ok tt
unfolding fields_checked
fields_pass check Meets all step fs zero at le s each = refl
fields_pass check Meets all step [] (suc most) at le s each =
    let test : (at == length all) ≡ true = eq-eqb at (length all) (omega (arith, length-drop at all, ap length s)) in
    rw test refl
fields_pass check Meets all step (f ∷ fs) (suc most) at le s each =
    let front = s.0 in
    let rest = s.1 in
    let some = SpellsField-some f front s.3 in
    let size : length all ≡ at + length front + length rest = omega (arith, length-drop at all, ap length s.2, length-append front rest) in
    let end : drop (at + length front) all ≡ rest = after all at front rest s.2 in
    let more : SpellsFields fs (drop (at + length front) all) = subst (λ (t : List ℕ). SpellsFields fs t) (sym end) s.4 in
    let test : (at == length all) ≡ false = ne_eqb at (length all) (λ e. omega arith) in
    let field = field_again all at f front rest s.2 s.3 in
    let reads : Reads all at (at + length front) f = record { text = front; parts = s.2 ∙ ap (λ (t : List ℕ). front ++ t) (sym end); size = refl; spelled = s.3 } in
    rw (test, field, step at (place_of at f front s.3) le field reads each.0) (fields_pass check Meets all step fs most (at + length front) (omega arith) more each.1)

-- where all pass, each is spelled and passes
fields_stand : (check : Placed → Result (Unit {0}) WireFault) (Meets : Field → Type 0) (all : List ℕ) → IsBytes all
    → ((at : ℕ) (p : Placed) → at ≤ length all → field_at all at ≡ Ok p → Reads all at p.end p.field → check p ≡ Ok tt → Meets p.field)
    → (most at : ℕ) → length all ≤ at + most → at ≤ length all → fields_checked check most all at ≡ Ok tt → SpellsEach Meets (drop at all)
unfolding fields_checked
fields_stand check Meets all h step zero at enough le e =
    record { fields = []; spelled = drop_all at all (omega arith); each = tt }
fields_stand check Meets all h step (suc most) at enough le e =
    elim (at == length all) as (λ t. (at == length all) ≡ t → SpellsEach Meets (drop at all)) [
      | true ↦ λ is. record { fields = []; spelled = drop_all at all (omega (arith, eqb-true at (length all) is)); each = tt }
      | false ↦ λ is.
          let whole = rw is at e in
          let field = bind_ok (field_at all at) (λ p. check p >>= (λ u. fields_checked check most all p.end)) tt whole in
          let passed = bind_ok (check field.0) (λ u. fields_checked check most all field.0.end) tt field.2 in
          let r = field_stands all at field.0 h field.1 in
          let some = SpellsField-some field.0.field r.text r.spelled in
          let size = r.size in
          let parts : length (drop at all) ≡ length r.text + length (drop field.0.end all) = ap length r.parts ∙ length-append r.text (drop field.0.end all) in
          let end : field.0.end ≤ length all = omega (arith, length-drop at all, length-drop field.0.end all) in
          let others = fields_stand check Meets all h step most field.0.end (omega arith) end passed.2 in
          record {
            fields = field.0.field ∷ others.fields;
            spelled = (r.text, drop field.0.end all, r.parts, r.spelled, others.spelled);
            each = (step at field.0 le field.1 r passed.1, others.each);
          }
    ] refl

-- ---- parts

text_pass : (b : List ℕ) (at : ℕ) → is_utf8 b ≡ true → text_checked b at ≡ Ok tt
unfolding text_checked
text_pass b at u = rw u refl

-- text of a caller
pub text_passes : (b : List ℕ) (at : ℕ) → IsUtf8 b → Ok tt ≡ text_checked b at
text_passes b at u = sym (text_pass b at (is_utf8-from_IsUtf8 b u))

pub text_refused : (b : List ℕ) (at : ℕ) → (IsUtf8 b → ⊥) → Err (BadUtf8 at) ≡ text_checked b at
unfolding text_checked
text_refused b at other =
    elim (is_utf8 b) as (λ t. is_utf8 b ≡ t → Err (BadUtf8 at) ≡ text_checked b at) [
      | true ↦ λ is. absurd (other (IsUtf8-from_is_utf8 b is))
      | false ↦ λ is. rw is refl
    ] refl

text_stands : (b : List ℕ) (at : ℕ) → text_checked b at ≡ Ok tt → is_utf8 b ≡ true
unfolding text_checked
text_stands b at e =
    elim (is_utf8 b) as (λ t. is_utf8 b ≡ t → is_utf8 b ≡ true) [ true ↦ λ is. is | false ↦ λ is. absurd (cc (rw is at e)) ] refl

-- the content of a field of bytes is what stands from its place to the field's end
record IsWithin (all : List ℕ) (p : Placed) (b : List ℕ) : Type 0 where
  pub is : drop p.content (take p.end all) ≡ b
  pub le : p.content ≤ length (take p.end all)

within : (all : List ℕ) (at : ℕ) (p : Placed) (b : List ℕ) → at ≤ length all → field_at all at ≡ Ok p → Reads all at p.end p.field → p.field.content ≡ bytes b → IsWithin all p b
within all at p b le e r is =
    let s = r.spelled in
    let some = SpellsField-some p.field r.text s in
    let same : p ≡ place_of at p.field r.text s = ok_is {A = Placed} p (place_of at p.field r.text s) (sym e ∙ field_again all at p.field r.text (drop p.end all) r.parts s) in
    let v : SpellsContent (bytes b) s.value = subst (λ (c : Content). SpellsContent c s.value) is s.value_is in
    let front = s.tag ++ v.0 in
    let content-is : p.content ≡ at + length r.text - length b =
    ap (λ (q : Placed). q.content) same ∙ ap (λ (c : Content). content_at c (at + length s.tag) (at + length r.text)) is in
    let text-is : r.text ≡ front ++ b = s.whole ∙ ap (λ (t : List ℕ). s.tag ++ t) v.2 ∙ sym (append_assoc s.tag v.0 b) in
    let parts : drop at all ≡ front ++ (b ++ drop p.end all) = r.parts ∙ ap (λ (t : List ℕ). t ++ drop p.end all) text-is ∙ append_assoc front b (drop p.end all) in
    let rest : drop (at + length front) all ≡ b ++ drop p.end all = after all at front (b ++ drop p.end all) parts in
    let len : length r.text ≡ length front + length b = ap length text-is ∙ length-append front b in
    let size = r.size in
    let begin : p.content ≡ at + length front = omega (arith, content-is, len) in
    let end : p.end ≡ p.content + length b = omega (arith, begin, len, size) in
    let inside : p.end ≤ length all = omega (arith, length-drop at all, length-drop p.end all, ap length r.parts, length-append r.text (drop p.end all), some) in
    record {
      is = ap (λ (n : ℕ). drop p.content (take n all)) end ∙ drop-take p.content (length b) all ∙ ap (λ (n : ℕ). take (length b) (drop n all)) begin ∙ ap (take (length b)) rest ∙ take_at b (drop p.end all) (length b) refl;
      le = omega (arith, end, length-take-le p.end all inside);
    }

part_passes : (part : Part) (all : List ℕ) (at : ℕ) (p : Placed) (c : Content) → at ≤ length all → field_at all at ≡ Ok p → Reads all at p.end p.field → p.field.content ≡ c
    → IsPart part c → part_checked part all p c ≡ Ok tt
unfolding part_checked
part_passes anything all at p c le e r is m = refl
part_passes text all at p (bytes b) le e r is m = text_pass b p.behind_tag m
part_passes text all at p (varint n) le e r is m = refl
part_passes text all at p (fixed64 n) le e r is m = refl
part_passes text all at p (fixed32 n) le e r is m = refl
part_passes (message parts) all at p (bytes b) le e r is m =
    let w = within all at p b le e r is in
    fields_pass (λ (q : Placed). part_checked (parts q.field.number) (take p.end all) q q.field.content) (λ (f : Field). IsPart (parts f.number) f.content) (take p.end all)
    (λ place q inside found reads meets. part_passes (parts q.field.number) (take p.end all) place q q.field.content inside found reads refl meets)
    m.fields (length (take p.end all)) p.content w.le (subst (λ (t : List ℕ). SpellsFields m.fields t) (sym w.is) m.spelled) m.each
part_passes (message parts) all at p (varint n) le e r is m = refl
part_passes (message parts) all at p (fixed64 n) le e r is m = refl
part_passes (message parts) all at p (fixed32 n) le e r is m = refl

part_stands : (part : Part) (all : List ℕ) (at : ℕ) (p : Placed) (c : Content) → IsBytes all → at ≤ length all → field_at all at ≡ Ok p → Reads all at p.end p.field → p.field.content ≡ c
    → part_checked part all p c ≡ Ok tt → IsPart part c
unfolding part_checked
part_stands anything all at p c h le e r is m = tt
part_stands text all at p (bytes b) h le e r is m = text_stands b p.behind_tag m
part_stands text all at p (varint n) h le e r is m = tt
part_stands text all at p (fixed64 n) h le e r is m = tt
part_stands text all at p (fixed32 n) h le e r is m = tt
part_stands (message parts) all at p (bytes b) h le e r is m =
    let w = within all at p b le e r is in
    subst (λ (t : List ℕ). IsMessage parts t) w.is (
    fields_stand (λ (q : Placed). part_checked (parts q.field.number) (take p.end all) q q.field.content) (λ (f : Field). IsPart (parts f.number) f.content) (take p.end all) (IsBytes-take p.end all h)
    (λ place q inside found reads passed. part_stands (parts q.field.number) (take p.end all) place q q.field.content (IsBytes-take p.end all h) inside found reads refl passed)
    (length (take p.end all)) p.content (omega arith) w.le m
    )
part_stands (message parts) all at p (varint n) h le e r is m = tt
part_stands (message parts) all at p (fixed64 n) h le e r is m = tt
part_stands (message parts) all at p (fixed32 n) h le e r is m = tt

-- ---- messages

pub parts_pass : (parts : ℕ → Part) (all : List ℕ) → IsMessage parts all → parts_checked parts all 0 ≡ Ok tt
unfolding parts_checked
parts_pass parts all m =
    fields_pass (field_checked parts all) (λ (f : Field). IsPart (parts f.number) f.content) all
    (λ at p le found reads meets. part_passes (parts p.field.number) all at p p.field.content le found reads refl meets)
    m.fields (length all) 0 (omega arith) m.spelled m.each

pub parts_stand : (parts : ℕ → Part) (all : List ℕ) → IsBytes all → parts_checked parts all 0 ≡ Ok tt → IsMessage parts all
unfolding parts_checked
parts_stand parts all h e =
    fields_stand (field_checked parts all) (λ (f : Field). IsPart (parts f.number) f.content) all h
    (λ at p le found reads passed. part_stands (parts p.field.number) all at p p.field.content h le found reads refl passed)
    (length all) 0 (omega arith) (omega arith) e

-- ---- pieces

SpellsFields-append : (fs gs : List Field) (a b : List ℕ) → SpellsFields fs a → SpellsFields gs b → SpellsFields (fs ++ gs) (a ++ b)
SpellsFields-append [] gs a b s t = subst (λ (u : List ℕ). SpellsFields gs u) (sym (ap (λ (u : List ℕ). u ++ b) s)) t
SpellsFields-append (f ∷ fs) gs a b s t =
    (s.0, s.1 ++ b, ap (λ (u : List ℕ). u ++ b) s.2 ∙ append_assoc s.0 s.1 b, s.3, SpellsFields-append fs gs s.1 b s.4 t)

IsMessage-append : (parts : ℕ → Part) (a b : List ℕ) → IsMessage parts a → IsMessage parts b → IsMessage parts (a ++ b)
IsMessage-append parts a b m n = record {
  fields = m.fields ++ n.fields;
  spelled = SpellsFields-append m.fields n.fields a b m.spelled n.spelled;
  each = All-append (λ (f : Field). IsPart (parts f.number) f.content) m.fields n.fields m.each n.each;
}

-- messages one after the other are one message
pub IsMessage-concat : (parts : ℕ → Part) (pieces : List (List ℕ)) → AllByRecursion (IsMessage parts) pieces → IsMessage parts (concat pieces)
IsMessage-concat parts [] all = record { fields = []; spelled = refl; each = tt }
IsMessage-concat parts (piece ∷ pieces) all = IsMessage-append parts piece (concat pieces) all.0 (IsMessage-concat parts pieces all.1)

-- the fields of a message are what their parts say
pub HasParts-read : (parts : ℕ → Part) (all : List ℕ) → IsMessage parts all → HasParts parts (fields_in all)
HasParts-read parts all m = subst (λ (fs : List Field). HasParts parts fs) (sym (fields_in-spelled m.fields all m.spelled)) m.each
