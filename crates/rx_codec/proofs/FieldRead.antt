-- What is spelled is read, and what is written is spelled.
use Rattle.std.proofs.Common.{◌≡◌, ℕ, zero, suc, ◌+◌, ◌≤◌, ◌==◌, true, false, List, [], ◌∷◌, ◌++◌, length, drop, refl, sym, ap, ◌∙◌, arith, subst, eq-eqb, length-append, Result, Ok, Err}
use Rattle.std.specs.Prelude.{OnOk, OnErr}
use Rattle.std.proofs.lemmas.Bool.{ne_eqb}
use Rattle.std.proofs.lemmas.List.{append-nil, length-drop}
use Rattle.std.proofs.lemmas.Grind.{flat_map-append}
use Rattle.rx_base.proofs.Lists.{All-append}
use Rattle.rx_wire.specs.Values.{Field}
use Rattle.rx_wire.specs.Fields.{SpellsFields}
use Rattle.rx_wire.specs.Out.{AddsField}
use Rattle.rx_wire.proofs.FieldLaws.{SpellsField-some, after, field_again}
use Rattle.rx_codec.specs.FieldBytes.{field_bytes, fields_bytes, fields_from, fields_in}
use Rattle.rx_codec.specs.Parts.{Part, IsPart, HasParts}
use Rattle.rx_codec.specs.Written.{IsWritten}

pub fields_from-spelled : (all : List ℕ) (fs : List Field) (most at : ℕ) → length all ≤ at + most → at ≤ length all → SpellsFields fs (drop at all) → fields_from most all at ≡ fs
unfolding fields_from
fields_from-spelled all [] zero at enough le s = refl
fields_from-spelled all [] (suc most) at enough le s =
    let test : (at == length all) ≡ true = eq-eqb at (length all) (omega (arith, length-drop at all, ap length s)) in
    rw test refl
fields_from-spelled all (f ∷ fs) zero at enough le s =
    let some = SpellsField-some f s.0 s.3 in
    absurd (omega (arith, length-drop at all, ap length s.2, length-append s.0 s.1))
fields_from-spelled all (f ∷ fs) (suc most) at enough le s =
    let front = s.0 in
    let rest = s.1 in
    let some = SpellsField-some f front s.3 in
    let size : length all ≡ at + length front + length rest = omega (arith, length-drop at all, ap length s.2, length-append front rest) in
    let end : drop (at + length front) all ≡ rest = after all at front rest s.2 in
    let more : SpellsFields fs (drop (at + length front) all) = subst (λ (text : List ℕ). SpellsFields fs text) (sym end) s.4 in
    let test : (at == length all) ≡ false = ne_eqb at (length all) (λ e. omega arith) in
    rw (test, field_again all at f front rest s.2 s.3) (ap (λ (gs : List Field). f ∷ gs) (fields_from-spelled all fs most (at + length front) (omega arith) (omega arith) more))

-- what is spelled is read
pub fields_in-spelled : (fs : List Field) (text : List ℕ) → SpellsFields fs text → fields_in text ≡ fs
unfolding fields_in
fields_in-spelled fs text s = fields_from-spelled text fs (length text) 0 (omega arith) (omega arith) s

pub fields_bytes-push : (fs : List Field) (f : Field) → fields_bytes (fs ++ f ∷ []) ≡ fields_bytes fs ++ field_bytes f
unfolding fields_bytes
fields_bytes-push fs f = flat_map-append field_bytes fs (f ∷ []) ∙ ap (λ (text : List ℕ). fields_bytes fs ++ text) (append-nil (field_bytes f))

-- one more field is written
pub record IsMore (parts : ℕ → Part) (old new : List ℕ) (f : Field) : Type 0 where
  pub written : IsWritten parts new
  pub fields : fields_in new ≡ fields_in old ++ f ∷ []

pub IsMore-from : (parts : ℕ → Part) (old new : List ℕ) (f : Field) → IsWritten parts old → AddsField old new f → new ≡ old ++ field_bytes f → IsPart (parts f.number) f.content → IsMore parts old new f
IsMore-from parts old new f w adds e part =
    let spelled : SpellsFields (fields_in old ++ f ∷ []) new = adds (fields_in old) w.spelled in
    let fields : fields_in new ≡ fields_in old ++ f ∷ [] = fields_in-spelled (fields_in old ++ f ∷ []) new spelled in
    record {
      written = record {
        same = e ∙ ap (λ (text : List ℕ). text ++ field_bytes f) w.same ∙ sym (fields_bytes-push (fields_in old) f) ∙ ap fields_bytes (sym fields);
        spelled = subst (λ (gs : List Field). SpellsFields gs new) (sym fields) spelled;
        each = subst (λ (gs : List Field). HasParts parts gs) (sym fields) (All-append (λ (g : Field). IsPart (parts g.number) g.content) (fields_in old) (f ∷ []) w.each (part, tt));
      };
      fields = fields;
    }

-- a field is written, or memory is wanting
pub written_either : {E : Type 0} (r : Result (Unit {0}) E) (parts : ℕ → Part) (old new : List ℕ) (f : Field) → IsWritten parts old
    → OnOk r (AddsField old new f) → OnOk r (new ≡ old ++ field_bytes f) → OnErr r (new ≡ old) → IsPart (parts f.number) f.content → IsWritten parts new
written_either (Ok x) parts old new f w adds e same part = (IsMore-from parts old new f w adds e part).written
written_either (Err d) parts old new f w adds e same part = subst (λ (text : List ℕ). IsWritten parts text) (sym same) w

pub fields_either : {E : Type 0} (r : Result (Unit {0}) E) (parts : ℕ → Part) (old new : List ℕ) (f : Field) → IsWritten parts old
    → OnOk r (AddsField old new f) → OnOk r (new ≡ old ++ field_bytes f) → IsPart (parts f.number) f.content → OnOk r (fields_in new ≡ fields_in old ++ f ∷ [])
fields_either (Ok x) parts old new f w adds e part = (IsMore-from parts old new f w adds e part).fields
fields_either (Err d) parts old new f w adds e part = tt

-- nothing is written
pub IsWritten-none : (parts : ℕ → Part) → IsWritten parts []
unfolding fields_in fields_from fields_bytes
IsWritten-none parts = record { same = refl; spelled = refl; each = tt }

pub fields_in-none : fields_in [] ≡ []
unfolding fields_in fields_from
fields_in-none = refl
