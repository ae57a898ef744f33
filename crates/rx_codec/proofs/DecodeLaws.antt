-- How decoding ends.
use Rattle.std.proofs.Common.{◌≡◌, ℕ, Bool, true, false, cond, List, Result, Ok, Err, refl, sym, ap, ◌∙◌, subst}
use Rattle.std.specs.Prelude.{IfOk}
use Rattle.rx_base.specs.Results.{Gives}
use Rattle.rx_base.proofs.ResultLemmas.{bind_ok}
use Rattle.rx_wire.specs.Fields.{SpellsFields}
use Rattle.rx_wire.proofs.Grammar.{IsBytes}
use Rattle.rx_codec.proofs.FieldRead.{fields_in-spelled}
use Rattle.rx_codec.proofs.PartLaws.{parts_pass, parts_stand}
use Rattle.rx_wire.specs.declared.faults.WireFault.{WireFault}
use Rattle.rx_wire.specs.Values.{Field}
use Rattle.rx_codec.specs.Decoding.{Means, decoded, formed, on_wire}
use Rattle.rx_codec.specs.FieldBytes.{fields_in}
use Rattle.rx_codec.specs.Parts.{HasParts, Part, parts_checked}
use Rattle.rx_codec.specs.declared.faults.MessageFault.{MessageFault}
use Rattle.rx_codec.specs.declared.faults.MessageFault.TheVariants.{Wire, NotCanonical, NoMemory}

module _ {A : Type 0} (parts : ℕ → Part) (from : List Field → Result A MessageFault) (is_canonical : List ℕ → A → Bool) (bytes : List ℕ) where
  pub wire_refused : (fault : WireFault) → parts_checked parts bytes 0 ≡ Err fault → decoded parts from is_canonical bytes ≡ Err (Wire fault)
  unfolding decoded
  wire_refused fault e = rw e refl

  pub value_refused : (fault : MessageFault) → parts_checked parts bytes 0 ≡ Ok tt → from (fields_in bytes) ≡ Err fault → decoded parts from is_canonical bytes ≡ Err fault
  unfolding decoded
  value_refused fault passed e = rw (passed, e) refl

  pub form_refused : (x : A) → parts_checked parts bytes 0 ≡ Ok tt → from (fields_in bytes) ≡ Ok x → is_canonical bytes x ≡ false → decoded parts from is_canonical bytes ≡ Err NotCanonical
  unfolding decoded
  form_refused x passed e other = rw (passed, e, other) refl

  pub is_decoded : (x : A) → parts_checked parts bytes 0 ≡ Ok tt → from (fields_in bytes) ≡ Ok x → is_canonical bytes x ≡ true → decoded parts from is_canonical bytes ≡ Ok x
  unfolding decoded
  is_decoded x passed e same = rw (passed, e, same) refl

-- ---- spellings

on_wire_ok : (r : Result (Unit {0}) WireFault) → on_wire r ≡ Ok tt → r ≡ Ok tt
on_wire_ok (Ok x) e = refl
on_wire_ok (Err fault) e = absurd (cc e)

abbrev done : {A : Type 0} → A → Result A MessageFault
done x = Ok x

picked : {A : Type 0} (t : Bool) (y x : A) → cond t (done y) (Err NotCanonical) ≡ done x → done y ≡ done x
picked true y x e = e
picked false y x e = absurd (cc e)

formed_ok : {A : Type 0} (is_canonical : List ℕ → A → Bool) (bytes : List ℕ) (message : Result A MessageFault) (x : A) → formed is_canonical bytes message ≡ done x → message ≡ done x
formed_ok is_canonical bytes (Err fault) x e = absurd (cc e)
formed_ok is_canonical bytes (Ok y) x e = picked (is_canonical bytes y) y x e

module _ {A : Type 0} (parts : ℕ → Part) (from : List Field → Result A MessageFault) (is_canonical : List ℕ → A → Bool) (bytes : List ℕ) where
  means : (x : A) → IsBytes bytes → decoded parts from is_canonical bytes ≡ Ok x → Means parts from bytes x
  unfolding decoded
  means x h e =
      let p = bind_ok (on_wire (parts_checked parts bytes 0)) (λ _. formed is_canonical bytes (from (fields_in bytes))) x e in
      let m = parts_stand parts bytes h (on_wire_ok (parts_checked parts bytes 0) p.1) in
      let read : fields_in bytes ≡ m.fields = fields_in-spelled m.fields bytes m.spelled in
      record { fields = m.fields; spelled = m.spelled; each = m.each; is = ap from (sym read) ∙ formed_ok is_canonical bytes (from (fields_in bytes)) x p.2 }

  any : (list : List Field) → SpellsFields list bytes → HasParts parts list → decoded parts from is_canonical bytes ≡ formed is_canonical bytes (from list)
  unfolding decoded
  any list spelled each =
      let passed : parts_checked parts bytes 0 ≡ Ok tt = parts_pass parts bytes (record { fields = list; spelled = spelled; each = each }) in
      rw (passed, fields_in-spelled list bytes spelled) refl

  pub means_if : (r : Result A MessageFault) → IsBytes bytes → Gives NoMemory (λ x. x) r (decoded parts from is_canonical bytes) → IfOk r (λ x. Means parts from bytes x)
  means_if (Ok x) h e = means x h e
  means_if (Err fault) h e = tt

  pub given_any : (r : Result A MessageFault) (list : List Field) → SpellsFields list bytes → HasParts parts list → Gives NoMemory (λ x. x) r (decoded parts from is_canonical bytes) → Gives NoMemory (λ x. x) r (formed is_canonical bytes (from list))
  given_any r list spelled each e = subst (λ (given : Result A MessageFault). Gives NoMemory (λ (x : A). x) r given) (any list spelled each) e
