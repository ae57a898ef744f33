-- Fields one after the other.
use Rattle.std.proofs.Common.{◌≡◌, ℕ, ◌+◌, ◌≤◌, List, [], ◌∷◌, ◌++◌, length, drop, None, refl, sym, ap, ◌∙◌, arith, append_assoc, subst}
use Rattle.std.proofs.lemmas.List.{append-nil, drop_all, length-append, length-drop}
use Rattle.rx_wire.specs.Values.{Field}
use Rattle.rx_wire.specs.Fields.{SpellsField, SpellsFields, Placed, ReadsAll, fields_of}
use Rattle.rx_wire.specs.Out.{Appends, AddsField}
use Rattle.rx_wire.proofs.Grammar.{IsBytes}
use Rattle.rx_wire.proofs.FieldLaws.{SpellsField-some, after, field_again, field_stands, place_of}

pub SpellsFields-push : (fs : List Field) (text : List ℕ) (f : Field) (more : List ℕ) → SpellsFields fs text → SpellsField f more → SpellsFields (fs ++ f ∷ []) (text ++ more)
SpellsFields-push [] text f more s t = (more, [], rw s (sym (append-nil more)), t, refl)
SpellsFields-push (g ∷ fs) text f more s t = (s.0, s.1 ++ more, ap (λ (x : List ℕ). x ++ more) s.2 ∙ append_assoc s.0 s.1 more, s.3, SpellsFields-push fs s.1 f more s.4 t)

pub AddsField-from : (old new : List ℕ) (f : Field) → Appends old new f → AddsField old new f
AddsField-from old new f a fs s = subst (λ (text : List ℕ). SpellsFields (fs ++ f ∷ []) text) (sym a.parts) (SpellsFields-push fs old f a.text s a.spelled)

-- what is read up to the end is spelled so
pub SpellsFields-read : (all : List ℕ) (at : ℕ) (ps : List Placed) → IsBytes all → ReadsAll all at ps None → SpellsFields (fields_of ps) (drop at all)
SpellsFields-read all at [] h r = drop_all at all (omega (arith, r))
SpellsFields-read all at (p ∷ ps) h r =
    let s = field_stands all at p h r.1 in
    (s.text, drop p.end all, s.parts, s.spelled, SpellsFields-read all p.end ps h r.2)

-- what is spelled so is read up to the end
pub read_again : (all : List ℕ) (at : ℕ) (fs : List Field) → at ≤ length all → SpellsFields fs (drop at all) → (ps : List Placed) × ReadsAll all at ps None × (fields_of ps ≡ fs)
read_again all at [] le s = ([], omega (arith, length-drop at all, ap length s), refl)
read_again all at (f ∷ fs) le s =
    let front = s.0 in
    let rest = s.1 in
    let some = SpellsField-some f front s.3 in
    let size : length all ≡ at + length front + length rest = omega (arith, length-drop at all, ap length s.2, length-append front rest) in
    let end : drop (at + length front) all ≡ rest = after all at front rest s.2 in
    let more : SpellsFields fs (drop (at + length front) all) = subst (λ (text : List ℕ). SpellsFields fs text) (sym end) s.4 in
    let others = read_again all (at + length front) fs (omega arith) more in
    (place_of at f front s.3 ∷ others.0, (omega arith, field_again all at f front rest s.2 s.3, others.1), ap (λ (gs : List Field). f ∷ gs) others.2)
