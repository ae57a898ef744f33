-- Fields read one after the other, to be kept or to be checked.
use Rattle.std.proofs.Common.{◌≡◌, ℕ, zero, suc, ◌+◌, ◌<◌, ◌≤◌, ◌==◌, true, false, List, [], ◌∷◌, ◌++◌, length, Option, Some, None, inl, inr, Result, Ok, Err, refl, sym, ◌∙◌, arith, eq-eqb, append_assoc, subst}
use Rattle.std.proofs.lemmas.Bool.{ne_eqb}
use Rattle.std.specs.Prelude.{MatchOption}
use Rattle.std.proofs.lemmas.List.{append-nil, map-append}
use Rattle.rx_wire.specs.declared.faults.WireFault.{WireFault}
use Rattle.rx_wire.specs.declared.values.Value.{Value}
use Rattle.rx_wire.specs.Cursor.{Cursor}
use Rattle.rx_wire.specs.Values.{Field, field_of}
use Rattle.rx_wire.specs.Fields.{Next, Placed, Reads, field_at}
use Rattle.rx_codec.specs.Seen.{IsOver, seen}
use Rattle.rx_wire.proofs.FieldLaws.{SpellsField-some}
use Rattle.rx_codec.specs.FieldBytes.{fields_from, fields_in}
use Rattle.rx_codec.specs.Parts.{fields_checked}

-- a field has a byte at least
pub grows : (all : List ℕ) (at end : ℕ) (f : Field) → Reads all at end f → at < end
grows all at end f r =
    let some = SpellsField-some f r.text r.spelled in
    let size = r.size in
    omega arith

-- ---- kept

-- the fields so far and those from here on are all
pub record IsReading (bytes now : List ℕ) (at : ℕ) (found : List Field) : Type 0 where
  pub most : ℕ
  pub same : now ≡ bytes
  pub enough : length bytes ≤ at + most
  pub rest : found ++ fields_from most bytes at ≡ fields_in bytes

pub read_starts : (bytes : List ℕ) → IsReading bytes bytes 0 []
unfolding fields_in
read_starts bytes = record { most = length bytes; same = refl; enough = omega arith; rest = refl }

read_more_at : (bytes : List ℕ) (at most : ℕ) (found : List Field) (placed : Placed) → length bytes ≤ at + most → found ++ fields_from most bytes at ≡ fields_in bytes
    → at < length bytes → field_at bytes at ≡ Ok placed → at < placed.end → IsReading bytes bytes placed.end (found ++ placed.field ∷ [])
unfolding fields_from
read_more_at bytes at zero found placed enough rest lt field more = absurd (omega arith)
read_more_at bytes at (suc most) found placed enough rest lt field more =
    let test : (at == length bytes) ≡ false = ne_eqb at (length bytes) (λ e. omega arith) in
    let next : found ++ placed.field ∷ fields_from most bytes placed.end ≡ fields_in bytes = rw (test, field) at rest in
    record { most = most; same = refl; enough = omega arith; rest = append_assoc found (placed.field ∷ []) (fields_from most bytes placed.end) ∙ next }

pub read_more : (bytes now : List ℕ) (at : ℕ) (found : List Field) (placed : Placed) → IsReading bytes now at found → at < length now → field_at now at ≡ Ok placed → at < placed.end
    → IsReading bytes now placed.end (found ++ placed.field ∷ [])
read_more bytes now at found placed r lt field more =
    subst (λ (text : List ℕ). IsReading bytes text placed.end (found ++ placed.field ∷ [])) (sym r.same)
    (read_more_at bytes at r.most found placed r.enough r.rest (rw r.same at lt) (rw r.same at field) more)

read_ends_at : (bytes : List ℕ) (at most : ℕ) (found : List Field) → found ++ fields_from most bytes at ≡ fields_in bytes → at ≡ length bytes → found ≡ fields_in bytes
unfolding fields_from
read_ends_at bytes at zero found rest e = sym (append-nil found) ∙ rest
read_ends_at bytes at (suc most) found rest e =
    let test : (at == length bytes) ≡ true = eq-eqb at (length bytes) e in
    sym (append-nil found) ∙ (rw test at rest)

pub read_ends : (bytes now : List ℕ) (at : ℕ) (found : List Field) → IsReading bytes now at found → at ≡ length now → found ≡ fields_in bytes
read_ends bytes now at found r e = read_ends_at bytes at r.most found r.rest (rw r.same at e)

read_stops_at : (bytes : List ℕ) (at most : ℕ) (found : List Field) (fault : WireFault) → found ++ fields_from most bytes at ≡ fields_in bytes → at < length bytes → field_at bytes at ≡ Err fault → found ≡ fields_in bytes
unfolding fields_from
read_stops_at bytes at zero found fault rest lt field = sym (append-nil found) ∙ rest
read_stops_at bytes at (suc most) found fault rest lt field =
    let test : (at == length bytes) ≡ false = ne_eqb at (length bytes) (λ e. omega arith) in
    sym (append-nil found) ∙ (rw (test, field) at rest)

pub read_stops : (bytes now : List ℕ) (at : ℕ) (found : List Field) (fault : WireFault) → IsReading bytes now at found → at < length now → field_at now at ≡ Err fault → found ≡ fields_in bytes
read_stops bytes now at found fault r lt field = read_stops_at bytes at r.most found fault r.rest (rw r.same at lt) (rw r.same at field)

pub read_over : (bytes : List ℕ) (now : Cursor) (found : List Field) → IsReading bytes now.bytes now.at found → IsOver now → found ≡ fields_in bytes
read_over bytes now found r (inl e) = read_ends bytes now.bytes now.at found r e
read_over bytes now found r (inr f) = read_stops bytes now.bytes now.at found f.0 r f.1 f.2

-- what `next` answers, where a refusal counts as the end
pub is_next : (old new : Cursor) (next : Option (ℕ × Value)) → Next old (Ok next) new → MatchOption next (IsOver old) (λ f. Next old (Ok (Some f)) new)
is_next old new None n = inl n.0
is_next old new (Some f) n = n

pub is_over : (old new : Cursor) (fault : WireFault) → Next old (Err fault) new → IsOver old
is_over old new fault n = inr (fault, n.0, n.2)

pub seen-push : (fields : List (ℕ × Value)) (f : ℕ × Value) → seen (fields ++ f ∷ []) ≡ seen fields ++ field_of f.0 f.1 ∷ []
seen-push fields f = map-append (λ (g : ℕ × Value). field_of g.0 g.1) fields (f ∷ [])

-- ---- checked

-- the fields from here on are checked as all of them are
pub record IsChecking (check : Placed → Result (Unit {0}) WireFault) (whole : Result (Unit {0}) WireFault) (bytes now : List ℕ) (at : ℕ) : Type 0 where
  pub most : ℕ
  pub same : now ≡ bytes
  pub enough : length bytes ≤ at + most
  pub rest : fields_checked check most bytes at ≡ whole

pub check_starts : (check : Placed → Result (Unit {0}) WireFault) (bytes : List ℕ) (at : ℕ) → IsChecking check (fields_checked check (length bytes) bytes at) bytes bytes at
check_starts check bytes at = record { most = length bytes; same = refl; enough = omega arith; rest = refl }

check_more_at : (check : Placed → Result (Unit {0}) WireFault) (whole : Result (Unit {0}) WireFault) (bytes : List ℕ) (at most : ℕ) (placed : Placed) → length bytes ≤ at + most → fields_checked check most bytes at ≡ whole
    → at < length bytes → field_at bytes at ≡ Ok placed → check placed ≡ Ok tt → at < placed.end → IsChecking check whole bytes bytes placed.end
unfolding fields_checked
check_more_at check whole bytes at zero placed enough rest lt field passed more = absurd (omega arith)
check_more_at check whole bytes at (suc most) placed enough rest lt field passed more =
    let test : (at == length bytes) ≡ false = ne_eqb at (length bytes) (λ e. omega arith) in
    record { most = most; same = refl; enough = omega arith; rest = rw (test, field, passed) at rest }

pub check_more : (check : Placed → Result (Unit {0}) WireFault) (whole : Result (Unit {0}) WireFault) (bytes now : List ℕ) (at : ℕ) (placed : Placed) → IsChecking check whole bytes now at
    → at < length now → field_at now at ≡ Ok placed → check placed ≡ Ok tt → at < placed.end → IsChecking check whole bytes now placed.end
check_more check whole bytes now at placed r lt field passed more =
    subst (λ (text : List ℕ). IsChecking check whole bytes text placed.end) (sym r.same)
    (check_more_at check whole bytes at r.most placed r.enough r.rest (rw r.same at lt) (rw r.same at field) passed more)

check_ends_at : (check : Placed → Result (Unit {0}) WireFault) (whole : Result (Unit {0}) WireFault) (bytes : List ℕ) (at most : ℕ) → fields_checked check most bytes at ≡ whole → at ≡ length bytes → Ok tt ≡ whole
unfolding fields_checked
check_ends_at check whole bytes at zero rest e = rest
check_ends_at check whole bytes at (suc most) rest e =
    let test : (at == length bytes) ≡ true = eq-eqb at (length bytes) e in
    rw test at rest

pub check_ends : (check : Placed → Result (Unit {0}) WireFault) (whole : Result (Unit {0}) WireFault) (bytes now : List ℕ) (at : ℕ) → IsChecking check whole bytes now at → at ≡ length now → Ok tt ≡ whole
check_ends check whole bytes now at r e = check_ends_at check whole bytes at r.most r.rest (rw r.same at e)

check_stops_at : (check : Placed → Result (Unit {0}) WireFault) (whole : Result (Unit {0}) WireFault) (bytes : List ℕ) (at most : ℕ) (fault : WireFault) → length bytes ≤ at + most → fields_checked check most bytes at ≡ whole
    → at < length bytes → field_at bytes at ≡ Err fault → Err fault ≡ whole
unfolding fields_checked
check_stops_at check whole bytes at zero fault enough rest lt field = absurd (omega arith)
check_stops_at check whole bytes at (suc most) fault enough rest lt field =
    let test : (at == length bytes) ≡ false = ne_eqb at (length bytes) (λ e. omega arith) in
    rw (test, field) at rest

-- a field is refused by the wire format
pub check_stops : (check : Placed → Result (Unit {0}) WireFault) (whole : Result (Unit {0}) WireFault) (bytes now : List ℕ) (at : ℕ) (fault : WireFault) → IsChecking check whole bytes now at
    → at < length now → field_at now at ≡ Err fault → Err fault ≡ whole
check_stops check whole bytes now at fault r lt field = check_stops_at check whole bytes at r.most fault r.enough r.rest (rw r.same at lt) (rw r.same at field)

check_refuses_at : (check : Placed → Result (Unit {0}) WireFault) (whole : Result (Unit {0}) WireFault) (bytes : List ℕ) (at most : ℕ) (placed : Placed) (fault : WireFault) → length bytes ≤ at + most → fields_checked check most bytes at ≡ whole
    → at < length bytes → field_at bytes at ≡ Ok placed → check placed ≡ Err fault → Err fault ≡ whole
unfolding fields_checked
check_refuses_at check whole bytes at zero placed fault enough rest lt field refused = absurd (omega arith)
check_refuses_at check whole bytes at (suc most) placed fault enough rest lt field refused =
    let test : (at == length bytes) ≡ false = ne_eqb at (length bytes) (λ e. omega arith) in
    rw (test, field, refused) at rest

-- a field is refused by its part
pub check_refuses : (check : Placed → Result (Unit {0}) WireFault) (whole : Result (Unit {0}) WireFault) (bytes now : List ℕ) (at : ℕ) (placed : Placed) (fault : WireFault) → IsChecking check whole bytes now at
    → at < length now → field_at now at ≡ Ok placed → check placed ≡ Err fault → Err fault ≡ whole
check_refuses check whole bytes now at placed fault r lt field refused = check_refuses_at check whole bytes at r.most placed fault r.enough r.rest (rw r.same at lt) (rw r.same at field) refused
