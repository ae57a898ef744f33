-- Faults of calls read of their packed numbers.
use Rattle.std.proofs.Common.{◌≡◌, ◌≢◌, ℕ, zero, suc, ◌+◌, ◌/◌, ◌%◌, ◌^◌, ◌<◌, ◌≤◌, ◌==◌, true, false, List, [], ◌∷◌, length, drop, map, Ok, refl, ap, arith, eq-eqb, length-append, lit<}
use Rattle.std.specs.Prelude.{nat_lt}
use Rattle.std.specs.List.{AllByRecursion}
use Rattle.std.proofs.lemmas.Bool.{ne_eqb, ltb-true}
use Rattle.std.proofs.lemmas.List.{length-drop}
use Rattle.rx_wire.specs.Varints.{shortest}
use Rattle.rx_wire.proofs.FieldLaws.{after}
use Rattle.rx_wire.proofs.Grammar.{IsVarint-shortest, number_again}
use Rattle.rx_world.specs.declared.call_faults.CallFault.{CallFault}
use Rattle.rx_world.specs.declared.call_faults.CallFault.TheVariants as calls
use Rattle.rx_wire.proofs.FieldLaws.{Spells-some}
use Rattle.rx_session.specs.CallFaults.{IsOfCall, call_fault_number, fault_at, fault_by, fault_of, faults_from, faults_in, low_byte, packed_faults, told_fault, with_code}

low_fits : (code : ℕ) → low_byte code < 256
low_fits code =
    elim (nat_lt code 256) as (λ t. nat_lt code 256 ≡ t → low_byte code < 256) [
      | true ↦ λ e. rw e (ltb-true code 256 e)
      | false ↦ λ e. rw e (lit< tt)
    ] refl

-- the kind and the code of a number
kind_again : (kind code : ℕ) → with_code kind code / 256 ≡ kind
kind_again kind code = let low = low_fits code in omega arith

code_again : (kind code : ℕ) → with_code kind code % 256 ≡ low_byte code
code_again kind code = let low = low_fits code in omega arith

fault_again : (fault : CallFault) → IsOfCall fault → fault_of (call_fault_number fault) ≡ Ok (told_fault fault)
unfolding fault_of fault_by
fault_again (calls.Status code) h = rw (kind_again 1 code, code_again 1 code) refl
fault_again calls.Link h = refl
fault_again (calls.Protocol code) h = rw (kind_again 3 code, code_again 3 code) refl
fault_again calls.Compressed h = refl
fault_again calls.TooLarge h = refl
fault_again calls.NoStatus h = refl
fault_again (calls.BadMessage at) h = refl
fault_again calls.Cut h = refl
fault_again (calls.BlobRefused digest code) h = rw (kind_again 9 code, code_again 9 code) refl
fault_again calls.NoMemory h = absurd (h refl)

code_fits : (kind code : ℕ) → kind ≤ 9 → with_code kind code < 2 ^ 64
code_fits kind code le = let low = low_fits code in omega arith

number_fits : (fault : CallFault) → call_fault_number fault < 2 ^ 64
number_fits (calls.Status code) = code_fits 1 code (omega arith)
number_fits calls.Link = lit< tt
number_fits (calls.Protocol code) = code_fits 3 code (omega arith)
number_fits calls.Compressed = lit< tt
number_fits calls.TooLarge = lit< tt
number_fits calls.NoStatus = lit< tt
number_fits (calls.BadMessage at) = lit< tt
number_fits calls.Cut = lit< tt
number_fits (calls.BlobRefused digest code) = code_fits 9 code (omega arith)
number_fits calls.NoMemory = lit< tt

faults_again_from : (faults : List CallFault) (most : ℕ) (all : List ℕ) (at : ℕ) → length all ≤ at + most → at ≤ length all → drop at all ≡ packed_faults faults
    → AllByRecursion IsOfCall faults → faults_from most all at ≡ Ok (map told_fault faults)
unfolding faults_from fault_at
faults_again_from [] zero all at enough within e each = refl
faults_again_from [] (suc most) all at enough within e each =
    let end : (at == length all) ≡ true = eq-eqb at (length all) (omega (arith, length-drop at all, ap length e)) in
    rw end refl
faults_again_from (fault ∷ faults) zero all at enough within e each =
    let some = Spells-some (shortest (call_fault_number fault)) (call_fault_number fault) (IsVarint-shortest (call_fault_number fault) (number_fits fault)).spelled in
    absurd (omega (arith, length-drop at all, ap length e, length-append (shortest (call_fault_number fault)) (packed_faults faults)))
faults_again_from (fault ∷ faults) (suc most) all at enough within e each =
    let number = call_fault_number fault in
    let spelled = IsVarint-shortest number (number_fits fault) in
    let some = Spells-some (shortest number) number spelled.spelled in
    let size : length all ≡ at + length (shortest number) + length (packed_faults faults) =
    omega (arith, length-drop at all, ap length e, length-append (shortest number) (packed_faults faults)) in
    let open_end : (at == length all) ≡ false = ne_eqb at (length all) (λ same. omega arith) in
    let rest : drop (at + length (shortest number)) all ≡ packed_faults faults = after all at (shortest number) (packed_faults faults) e in
    rw (
      open_end,
      number_again all at (shortest number) (packed_faults faults) number e spelled,
      fault_again fault each.0,
      faults_again_from faults most all (at + length (shortest number)) (omega arith) (omega arith) rest each.1,
    ) refl

pub faults_again : (faults : List CallFault) → AllByRecursion IsOfCall faults → faults_in (packed_faults faults) ≡ Ok (map told_fault faults)
unfolding faults_in
faults_again faults each = faults_again_from faults (length (packed_faults faults)) (packed_faults faults) 0 (omega arith) (omega arith) refl each

-- where there are faults, there are bytes
pub some_packed : (faults : List CallFault) → faults ≢ [] → (length (packed_faults faults) == 0) ≡ false
some_packed [] h = absurd (h refl)
some_packed (fault ∷ faults) h =
    let number = call_fault_number fault in
    let some = Spells-some (shortest number) number (IsVarint-shortest number (number_fits fault)).spelled in
    ne_eqb _ 0 (λ e. omega (arith, e, length-append (shortest number) (packed_faults faults)))
