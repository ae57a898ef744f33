-- A block that is read is spelled so, and one that is spelled is read; and reading one representation after the other.
use Rattle.std.proofs.Common.{◌≡◌, ℕ, ◌+◌, ◌-◌, ◌<◌, ◌≤◌, zero, suc, List, [], ◌∷◌, ◌++◌, length, Result, Ok, Err, refl, sym, ap, subst, ◌∙◌, arith, length-append, get_or, drop, take}
use Rattle.std.proofs.lemmas.List.{take_all}
use Rattle.rx_hpack.specs.declared.fault.HpackFault.{HpackFault}
use Rattle.rx_hpack.specs.declared.fault.HpackFault.TheVariants.{BadIndex, BadInteger, BadHuffman, SizeUpdate, ListTooLarge, NoMemory}
use Rattle.rx_hpack.specs.Answers.{◌>>=◌, Fails}
use Rattle.std.specs.Prelude.{IfOk}
use Rattle.std.specs.Global.{Vec}
use Rattle.rx_hpack.specs.declared.header.Header.{Header}
use Rattle.rx_hpack.specs.Header.{Field, views}
use Rattle.rx_hpack.specs.DynamicTable.{Table}
use Rattle.rx_hpack.specs.Representation.{Form, IndexedField, LiteralField, NewSize, representation_at}
use Rattle.rx_hpack.specs.Decoder.{Progress, applied, named, with_field, block_from, block_of, AreSpelled, processed, IsBlock, State, Ready, Refused, Decodes, DecodesBlock, Leaves, StandsFor, Reaches, seen}
use Rattle.rx_hpack.proofs.Takes.{IsBytes, IsBytes-rest, bind_ok, done, ok_is}
use Rattle.rx_hpack.proofs.RepresentationLemmas.{Taken, IsFormNamed, representation_takes, representation_again}

abbrev next_block : ℕ → List ℕ → Progress → Result Progress HpackFault
next_block most rest next = block_from most next.fields next.table rest

abbrev first_read : ℕ → List Field → Table → Form × List ℕ → Result Progress HpackFault
first_read most fields table read = applied fields table read.0 >>= next_block most read.1

block_step : (most : ℕ) (fields : List Field) (table : Table) (first : ℕ) (bytes : List ℕ) → block_from (suc most) fields table (first ∷ bytes) ≡ (representation_at table first bytes >>= first_read most fields table)
unfolding block_from
block_step most fields table first bytes = refl

block_end : (most : ℕ) (fields : List Field) (table : Table) → block_from most fields table [] ≡ Ok (record { fields = fields; table = table })
unfolding block_from
block_end most fields table = refl

no_block : (fields : List Field) (table : Table) (first : ℕ) (bytes : List ℕ) (p : Progress) → block_from zero fields table (first ∷ bytes) ≡ Ok p → ⊥
unfolding block_from
no_block fields table first bytes p e = cc

-- ---- what is read takes a byte at least

taken_shorter : (table : Table) (first : ℕ) (bytes : List ℕ) (read : Form) (rest : List ℕ) → Taken table (first ∷ bytes) read rest → length rest ≤ length bytes
taken_shorter table first bytes read rest t =
    let a = representation_again table read t.text rest t.spells t.is_named in
    let whole : length (first ∷ bytes) ≡ length (t.text ++ rest) = ap length t.parts in
    let sum : length (t.text ++ rest) ≡ length t.text + length rest = length-append t.text rest in
    let some : length t.text ≡ length (a.first ∷ a.more) = ap length a.spelled in
    omega (arith, whole, sum, some)

-- ---- the two laws

record BlockTaken (fields : List Field) (table : Table) (bytes : List ℕ) (p : Progress) : Type 0 where
  reads : List Form
  are_spelled : AreSpelled reads bytes
  gives : processed fields table reads ≡ Ok p

block_takes : (most : ℕ) (fields : List Field) (table : Table) (bytes : List ℕ) (p : Progress) → IsBytes bytes → block_from most fields table bytes ≡ Ok p → BlockTaken fields table bytes p
block_takes most fields table [] p fits e = record { reads = []; are_spelled = refl; gives = sym (block_end most fields table) ∙ e }
block_takes zero fields table (first ∷ bytes) p fits e = absurd (no_block fields table first bytes p e)
block_takes (suc most) fields table (first ∷ bytes) p fits e =
    let r = bind_ok (representation_at table first bytes) (first_read most fields table) p (sym (block_step most fields table first bytes) ∙ e) in
    let t = representation_takes table first bytes r.0 (fits 0) (IsBytes-rest first bytes fits) r.1 in
    let a = bind_ok (applied fields table r.0.0) (next_block most r.0.1) p r.2 in
    let more = block_takes most a.0.fields a.0.table r.0.1 p t.rest_fits a.2 in
    record {
      reads = r.0.0 ∷ more.reads;
      are_spelled = (t.text, r.0.1, t.parts, t.spells, more.are_spelled);
      gives = ap (λ (x : Result Progress HpackFault). x >>= λ next. processed next.fields next.table more.reads) a.1 ∙ more.gives;
    }

-- a representation that was done has a name where it needs one
applied_named : (fields : List Field) (table : Table) (read : Form) (p : Progress) → applied fields table read ≡ Ok p → IsFormNamed table read
unfolding applied
applied_named fields table (LiteralField indexing name value) p e =
    let h = bind_ok (named table name) (λ text. with_field fields table indexing (record { name = text; value = value })) p e in (h.0, h.1)
applied_named fields table (IndexedField index) p e = tt
applied_named fields table (NewSize size) p e = tt

block_again : (reads : List Form) (most : ℕ) (fields : List Field) (table : Table) (bytes : List ℕ) (p : Progress) → length bytes ≤ most → AreSpelled reads bytes → processed fields table reads ≡ Ok p → block_from most fields table bytes ≡ Ok p
block_again [] most fields table bytes p enough h e = ap (block_from most fields table) h ∙ block_end most fields table ∙ e
block_again (read ∷ reads) zero fields table bytes p enough h e =
    let d = bind_ok (applied fields table read) (λ next. processed next.fields next.table reads) p e in
    let a = representation_again table read h.0 h.1 h.3 (applied_named fields table read d.0 d.1) in
    let some : length bytes ≡ length ((a.first ∷ a.more) ++ h.1) = ap length (h.2 ∙ ap (λ (w : List ℕ). w ++ h.1) a.spelled) in
    absurd (omega (arith, some, enough))
block_again (read ∷ reads) (suc most) fields table bytes p enough h e =
    let d = bind_ok (applied fields table read) (λ next. processed next.fields next.table reads) p e in
    let a = representation_again table read h.0 h.1 h.3 (applied_named fields table read d.0 d.1) in
    let bytes-is : bytes ≡ a.first ∷ (a.more ++ h.1) = h.2 ∙ ap (λ (w : List ℕ). w ++ h.1) a.spelled in
    let some : length bytes ≡ suc (length (a.more ++ h.1)) = ap length bytes-is in
    let sum : length (a.more ++ h.1) ≡ length a.more + length h.1 = length-append a.more h.1 in
    ap (block_from (suc most) fields table) bytes-is
    ∙ block_step most fields table a.first (a.more ++ h.1)
    ∙ ap (λ (x : Result (Form × List ℕ) HpackFault). x >>= first_read most fields table) a.again
    ∙ ap (λ (x : Result Progress HpackFault). x >>= next_block most h.1) d.1
    ∙ block_again reads most d.0.fields d.0.table h.1 p (omega (arith, enough, some, sum)) h.4 d.2

block_of-from : (table : Table) (bytes : List ℕ) → block_of table bytes ≡ block_from (length bytes) [] table bytes
unfolding block_of
block_of-from table bytes = refl

is_block : (old : Table) (bytes : List ℕ) (fields : List Field) (new : Table) → IsBytes bytes → block_of old bytes ≡ Ok (record { fields = fields; table = new }) → IsBlock old bytes fields new
is_block old bytes fields new fits e =
    let t = block_takes (length bytes) [] old bytes (record { fields = fields; table = new }) fits (sym (block_of-from old bytes) ∙ e) in
    record { reads = t.reads; are_spelled = t.are_spelled; gives = t.gives }

pub block_is_read : (old : Table) (bytes : List ℕ) (fields : List Field) (new : Table) → IsBlock old bytes fields new → block_of old bytes ≡ Ok (record { fields = fields; table = new })
block_is_read old bytes fields new h =
    block_of-from old bytes ∙ block_again h.reads (length bytes) [] old bytes (record { fields = fields; table = new }) (omega arith) h.are_spelled h.gives

-- ---- the loop over a block

pub record SoFar (old : Table) (bytes : List ℕ) (fields : List Field) (table : Table) (left : List ℕ) : Type 0 where
  pub most : ℕ
  pub enough : length left ≤ most
  pub same : block_from most fields table left ≡ block_of old bytes
  pub fits : IsBytes left

pub at_the_start : (old : Table) (bytes : List ℕ) → IsBytes bytes → SoFar old bytes [] old bytes
at_the_start old bytes fits = record { most = length bytes; enough = omega arith; same = sym (block_of-from old bytes); fits = fits }

steps : (old : Table) (bytes : List ℕ) (fields : List Field) (table : Table) (first : ℕ) (rest : List ℕ) (most : ℕ) (read : Form) (after : List ℕ) (p : Progress) → length (first ∷ rest) ≤ most → block_from most fields table (first ∷ rest) ≡ block_of old bytes → IsBytes (first ∷ rest) → representation_at table first rest ≡ Ok (read, after) → applied fields table read ≡ Ok p → SoFar old bytes p.fields p.table after
steps old bytes fields table first rest zero read after p enough same fits r a = absurd (omega (arith, enough))
steps old bytes fields table first rest (suc most) read after p enough same fits r a =
    let t = representation_takes table first rest (read, after) (fits 0) (IsBytes-rest first rest fits) r in
    let shorter = taken_shorter table first rest read after t in
    record {
      most = most;
      enough = omega (arith, enough, shorter);
      same =
          sym (block_step most fields table first rest ∙ ap (λ (x : Result (Form × List ℕ) HpackFault). x >>= first_read most fields table) r
          ∙ ap (λ (x : Result Progress HpackFault). x >>= next_block most after) a)
          ∙ same;
      fits = t.rest_fits;
    }

goes_on : (old : Table) (bytes : List ℕ) (fields : List Field) (table : Table) (first : ℕ) (rest : List ℕ) (read : Form) (after : List ℕ) (fields' : List Field) (table' : Table) → SoFar old bytes fields table (first ∷ rest) → representation_at table first rest ≡ Ok (read, after) → applied fields table read ≡ Ok (record { fields = fields'; table = table' }) → SoFar old bytes fields' table' after
goes_on old bytes fields table first rest read after fields' table' so_far r a =
    steps old bytes fields table first rest so_far.most read after (record { fields = fields'; table = table' }) so_far.enough so_far.same so_far.fits r a

is_shorter : (old : Table) (bytes : List ℕ) (fields : List Field) (table : Table) (first : ℕ) (rest : List ℕ) (read : Form) (after : List ℕ) → SoFar old bytes fields table (first ∷ rest) → representation_at table first rest ≡ Ok (read, after) → length after ≤ length rest
is_shorter old bytes fields table first rest read after so_far r =
    taken_shorter table first rest read after (representation_takes table first rest (read, after) (so_far.fits 0) (IsBytes-rest first rest so_far.fits) r)

stops_reading : (old : Table) (bytes : List ℕ) (fields : List Field) (table : Table) (first : ℕ) (rest : List ℕ) (most : ℕ) (e : HpackFault) → length (first ∷ rest) ≤ most → block_from most fields table (first ∷ rest) ≡ block_of old bytes → representation_at table first rest ≡ Err e → block_of old bytes ≡ Err e
stops_reading old bytes fields table first rest zero e enough same r = absurd (omega (arith, enough))
stops_reading old bytes fields table first rest (suc most) e enough same r =
    sym same ∙ block_step most fields table first rest ∙ ap (λ (x : Result (Form × List ℕ) HpackFault). x >>= first_read most fields table) r

stops_applying : (old : Table) (bytes : List ℕ) (fields : List Field) (table : Table) (first : ℕ) (rest : List ℕ) (most : ℕ) (read : Form) (after : List ℕ) (e : HpackFault) → length (first ∷ rest) ≤ most → block_from most fields table (first ∷ rest) ≡ block_of old bytes → representation_at table first rest ≡ Ok (read, after) → applied fields table read ≡ Err e → block_of old bytes ≡ Err e
stops_applying old bytes fields table first rest zero read after e enough same r a = absurd (omega (arith, enough))
stops_applying old bytes fields table first rest (suc most) read after e enough same r a =
    sym same ∙ block_step most fields table first rest ∙ ap (λ (x : Result (Form × List ℕ) HpackFault). x >>= first_read most fields table) r
    ∙ ap (λ (x : Result Progress HpackFault). x >>= next_block most after) a

fails_reading : (e : HpackFault) (old : Table) (bytes : List ℕ) (fields : List Field) (table : Table) (first : ℕ) (rest : List ℕ) (new : Table) → SoFar old bytes fields table (first ∷ rest) → Fails e (representation_at table first rest) → DecodesBlock old bytes (Err e) new
fails_reading NoMemory old bytes fields table first rest new so_far r = tt
fails_reading BadIndex old bytes fields table first rest new so_far r = stops_reading old bytes fields table first rest so_far.most BadIndex so_far.enough so_far.same r
fails_reading BadInteger old bytes fields table first rest new so_far r = stops_reading old bytes fields table first rest so_far.most BadInteger so_far.enough so_far.same r
fails_reading BadHuffman old bytes fields table first rest new so_far r = stops_reading old bytes fields table first rest so_far.most BadHuffman so_far.enough so_far.same r
fails_reading SizeUpdate old bytes fields table first rest new so_far r = stops_reading old bytes fields table first rest so_far.most SizeUpdate so_far.enough so_far.same r
fails_reading ListTooLarge old bytes fields table first rest new so_far r = stops_reading old bytes fields table first rest so_far.most ListTooLarge so_far.enough so_far.same r

fails_applying : (e : HpackFault) (old : Table) (bytes : List ℕ) (fields : List Field) (table : Table) (first : ℕ) (rest : List ℕ) (read : Form) (after : List ℕ) (fields' : List Field) (table' new : Table) → SoFar old bytes fields table (first ∷ rest) → representation_at table first rest ≡ Ok (read, after) → Leaves (applied fields table read) (Err e) fields' table' → DecodesBlock old bytes (Err e) new
fails_applying NoMemory old bytes fields table first rest read after fields' table' new so_far r a = tt
fails_applying BadIndex old bytes fields table first rest read after fields' table' new so_far r a = stops_applying old bytes fields table first rest so_far.most read after BadIndex so_far.enough so_far.same r a
fails_applying BadInteger old bytes fields table first rest read after fields' table' new so_far r a = stops_applying old bytes fields table first rest so_far.most read after BadInteger so_far.enough so_far.same r a
fails_applying BadHuffman old bytes fields table first rest read after fields' table' new so_far r a = stops_applying old bytes fields table first rest so_far.most read after BadHuffman so_far.enough so_far.same r a
fails_applying SizeUpdate old bytes fields table first rest read after fields' table' new so_far r a = stops_applying old bytes fields table first rest so_far.most read after SizeUpdate so_far.enough so_far.same r a
fails_applying ListTooLarge old bytes fields table first rest read after fields' table' new so_far r a = stops_applying old bytes fields table first rest so_far.most read after ListTooLarge so_far.enough so_far.same r a

is_done : (old : Table) (bytes : List ℕ) (fields : List Field) (table : Table) → SoFar old bytes fields table [] → block_of old bytes ≡ Ok (record { fields = fields; table = table })
is_done old bytes fields table so_far = sym so_far.same ∙ block_end so_far.most fields table

-- ---- the decoder's states

stands_for : (old : State) (bytes : List ℕ) (fields : List Field) (new : State) → IsBytes bytes → Decodes old bytes (Ok fields) new → StandsFor old bytes fields new
stands_for (Ready old) bytes fields (Ready new) fits h = is_block old bytes fields new fits h
stands_for (Ready old) bytes fields (Refused fault) fits h = h
stands_for (Refused fault) bytes fields new fits h = absurd cc

progress_is : (p q : Progress) → done p ≡ done q → p ≡ q
progress_is p q e = ok_is p q e

refused_not : (p : Progress) (e : HpackFault) {A : Type 0} → done p ≡ Err e → A
refused_not p e h = absurd cc

-- nothing that the block stands for is refused
reaches : (old new : Table) (bytes : List ℕ) (fields : List Field) (result : Result (List Field) HpackFault) (state : State) → block_of old bytes ≡ Ok (record { fields = fields; table = new }) → Decodes (Ready old) bytes result state → Reaches fields new result state
reaches old new bytes fields (Ok found) (Ready table) e h =
    let same = progress_is (record { fields = found; table = table }) (record { fields = fields; table = new }) (sym h ∙ e) in
    (ap (λ (p : Progress). p.fields) same, ap (λ (p : Progress). Ready p.table) same)
reaches old new bytes fields (Ok found) (Refused fault) e h = absurd h
reaches old new bytes fields (Err NoMemory) state e h = h.1
reaches old new bytes fields (Err BadIndex) state e h = refused_not (record { fields = fields; table = new }) BadIndex (sym e ∙ h.0)
reaches old new bytes fields (Err BadInteger) state e h = refused_not (record { fields = fields; table = new }) BadInteger (sym e ∙ h.0)
reaches old new bytes fields (Err BadHuffman) state e h = refused_not (record { fields = fields; table = new }) BadHuffman (sym e ∙ h.0)
reaches old new bytes fields (Err SizeUpdate) state e h = refused_not (record { fields = fields; table = new }) SizeUpdate (sym e ∙ h.0)
reaches old new bytes fields (Err ListTooLarge) state e h = refused_not (record { fields = fields; table = new }) ListTooLarge (sym e ∙ h.0)

-- ---- the same at a slice that isn't empty, as its first element and what a pattern leaves of it

abbrev rest_of : List ℕ → List ℕ
rest_of left = take (length left - 1) (drop 1 left)

rest_of-cons : (first : ℕ) (rest : List ℕ) → rest_of (first ∷ rest) ≡ rest
rest_of-cons first rest = take_all (length (first ∷ rest) - 1) rest (omega arith)

pub goes_on_at : (old : Table) (bytes : List ℕ) (fields : List Field) (table : Table) (left : List ℕ) (read : Form) (after : List ℕ) (fields' : List Field) (table' : Table) → 1 ≤ length left → SoFar old bytes fields table left → representation_at table (get_or left 0 0) (rest_of left) ≡ Ok (read, after) → applied fields table read ≡ Ok (record { fields = fields'; table = table' }) → SoFar old bytes fields' table' after
goes_on_at old bytes fields table [] read after fields' table' some so_far r a = absurd (omega (arith, some))
goes_on_at old bytes fields table (first ∷ rest) read after fields' table' some so_far r a =
    goes_on old bytes fields table first rest read after fields' table' so_far (ap (representation_at table first) (sym (rest_of-cons first rest)) ∙ r) a

pub is_shorter_at : (old : Table) (bytes : List ℕ) (fields : List Field) (table : Table) (left : List ℕ) (read : Form) (after : List ℕ) → 1 ≤ length left → SoFar old bytes fields table left → representation_at table (get_or left 0 0) (rest_of left) ≡ Ok (read, after) → length after < length left
is_shorter_at old bytes fields table [] read after some so_far r = absurd (omega (arith, some))
is_shorter_at old bytes fields table (first ∷ rest) read after some so_far r =
    omega (arith, is_shorter old bytes fields table first rest read after so_far (ap (representation_at table first) (sym (rest_of-cons first rest)) ∙ r))

pub fails_reading_at : (e : HpackFault) (old : Table) (bytes : List ℕ) (fields : List Field) (table : Table) (left : List ℕ) (new : Table) → 1 ≤ length left → SoFar old bytes fields table left → Fails e (representation_at table (get_or left 0 0) (rest_of left)) → DecodesBlock old bytes (Err e) new
fails_reading_at e old bytes fields table [] new some so_far r = absurd (omega (arith, some))
fails_reading_at e old bytes fields table (first ∷ rest) new some so_far r =
    fails_reading e old bytes fields table first rest new so_far (subst (λ (w : List ℕ). Fails e (representation_at table first w)) (rest_of-cons first rest) r)

pub fails_applying_at : (e : HpackFault) (old : Table) (bytes : List ℕ) (fields : List Field) (table : Table) (left : List ℕ) (read : Form) (after : List ℕ) (fields' : List Field) (table' new : Table) → 1 ≤ length left → SoFar old bytes fields table left → representation_at table (get_or left 0 0) (rest_of left) ≡ Ok (read, after) → Leaves (applied fields table read) (Err e) fields' table' → DecodesBlock old bytes (Err e) new
fails_applying_at e old bytes fields table [] read after fields' table' new some so_far r a = absurd (omega (arith, some))
fails_applying_at e old bytes fields table (first ∷ rest) read after fields' table' new some so_far r a =
    fails_applying e old bytes fields table first rest read after fields' table' new so_far (ap (representation_at table first) (sym (rest_of-cons first rest)) ∙ r) a

pub is_done_at : (old : Table) (bytes : List ℕ) (fields found : List Field) (table : Table) (left : List ℕ) → length left < 1 → SoFar old bytes fields table left → found ≡ fields → block_of old bytes ≡ Ok (record { fields = found; table = table })
is_done_at old bytes fields found table [] none so_far is = is_done old bytes fields table so_far ∙ ap (λ (f : List Field). Ok (record { fields = f; table = table })) (sym is)
is_done_at old bytes fields found table (first ∷ rest) none so_far is = absurd (omega (arith, none))

-- ---- what a call of the decoder answered

pub found_by : (old : State) (bytes : List ℕ) (result : Result (Vec Header) HpackFault) (new : State) → IsBytes bytes → Decodes old bytes (seen result) new → IfOk result (λ headers. StandsFor old bytes (views headers.items) new)
found_by old bytes (Ok headers) new fits h = stands_for old bytes (views headers.items) new fits h
found_by old bytes (Err e) new fits h = tt

pub reached_by : (old new : Table) (before : State) (bytes : List ℕ) (fields : List Field) (result : Result (Vec Header) HpackFault) (state : State) → before ≡ Ready old → IsBlock old bytes fields new → Decodes before bytes (seen result) state → Reaches fields new (seen result) state
reached_by old new before bytes fields result state is block h =
    reaches old new bytes fields (seen result) state (block_is_read old bytes fields new block) (subst (λ (s : State). Decodes s bytes (seen result) state) is h)
