-- The tables of the Huffman decoder say what the walk along the codes does.
use Rattle.std.proofs.Common.{◌≡◌, ℕ, ◌+◌, ◌*◌, ◌/◌, ◌%◌, ◌<◌, ◌≤◌, ◌||◌, zero, suc, Bool, true, false, List, [], ◌∷◌, ◌++◌, length, get_or, map, refl, sym, ap, ◌∙◌, arith, add-zero, zero-add, nat_eq, inl, inr, Result, Ok, Err}
use Rattle.std.specs.List.{list_any}
use Rattle.std.proofs.lemmas.List.{get_or-append-add, get_or-map, get_or_append_left, append_assoc}
use Rattle.std.proofs.lemmas.List.Folds.{list_any-append}
use Rattle.std.proofs.lemmas.Bool.{cases_lt, lt-ltb, le-ltb, ne_eqb, or_from, or_right}
use Rattle.rx_hpack.specs.declared.fault.HpackFault.{HpackFault}
use Rattle.rx_hpack.specs.declared.fault.HpackFault.TheVariants.{BadHuffman, BadIndex, BadInteger, SizeUpdate, ListTooLarge, NoMemory}
use Rattle.rx_hpack.specs.declared.huffman_tables.TheConstants.{NEXT_STATES, SYMBOLS, PADDINGS}
use Rattle.rx_hpack.specs.Huffman.{rows, Walk, start, step, walked, bits_of, is_padding, is_end_mark}
use Rattle.rx_hpack.specs.HuffmanTables.{places, place_at, four, symbols, GoesFour, GoesByte}

-- ---- walking over bits in two parts

-- what was read before, and what is read then
abbrev pub with_front : List ℕ → List ℕ × Walk → List ℕ × Walk
with_front front read = (front ++ read.0, read.1)

pub walked-append : (table : List (List ℕ)) (place : Walk) (xs ys : List ℕ) → walked table place (xs ++ ys) ≡ with_front (walked table place xs).0 (walked table (walked table place xs).1 ys)
unfolding walked
walked-append table place [] ys = refl
walked-append table place (x ∷ xs) ys =
    let one = step table place x in
    ap (with_front one.0) (walked-append table one.1 xs ys)
    ∙ ap (λ (t : List ℕ). (t, (walked table (walked table one.1 xs).1 ys).1)) (sym (append_assoc one.0 (walked table one.1 xs).0 (walked table (walked table one.1 xs).1 ys).0))

-- ---- the entries of a state, from the four bits n on

abbrev pub row_of : List (List ℕ) → Walk → ℕ → ℕ → List (List ℕ × Walk)
row_of table place n zero = []
row_of table place n (suc count) = walked table place (four n) ∷ row_of table place (n + 1) count

abbrev pub all_rows : List (List ℕ) → List Walk → List (List ℕ × Walk)
all_rows table [] = []
all_rows table (place ∷ others) = row_of table place 0 16 ++ all_rows table others

-- what the two tables say
abbrev pub entries : List Walk → List ℕ → List ℕ → List (List ℕ × Walk)
entries ps [] ss = []
entries ps (n ∷ ns) [] = []
entries ps (n ∷ ns) (s ∷ ss) = (symbols s, place_at ps n) ∷ entries ps ns ss

pub tables_say : all_rows rows places ≡ entries places NEXT_STATES SYMBOLS
unfolding rows places step walked
tables_say = refl

abbrev none : List ℕ × Walk
none = ([], start)

get_or-row_of : (table : List (List ℕ)) (place : Walk) (n count i : ℕ) → i < count → get_or (row_of table place n count) i none ≡ walked table place (four (n + i))
get_or-row_of table place n zero i lt = absurd (omega arith)
get_or-row_of table place n (suc count) zero lt = ap (λ (k : ℕ). walked table place (four k)) (sym (add-zero n))
get_or-row_of table place n (suc count) (suc i) lt =
    let same : n + 1 + i ≡ n + suc i = omega arith in
    get_or-row_of table place (n + 1) count i (omega (arith, lt)) ∙ ap (λ (k : ℕ). walked table place (four k)) same

length-row_of : (table : List (List ℕ)) (place : Walk) (n count : ℕ) → length (row_of table place n count) ≡ count
length-row_of table place n zero = refl
length-row_of table place n (suc count) = ap suc (length-row_of table place (n + 1) count)

get_or-all_rows : (table : List (List ℕ)) (ps : List Walk) (i n : ℕ) → i < length ps → n < 16 → get_or (all_rows table ps) (16 * i + n) none ≡ walked table (place_at ps i) (four n)
get_or-all_rows table [] i n lt small = absurd (omega arith)
get_or-all_rows table (place ∷ others) zero n lt small =
    let e : 16 * 0 + n ≡ n = omega arith in
    ap (λ (k : ℕ). get_or (row_of table place 0 16 ++ all_rows table others) k none) e
    ∙ get_or_append_left (row_of table place 0 16) (all_rows table others) none n (omega (arith, small, length-row_of table place 0 16))
    ∙ get_or-row_of table place 0 16 n small ∙ ap (λ (k : ℕ). walked table place (four k)) (zero-add n)
get_or-all_rows table (place ∷ others) (suc i) n lt small =
    let e : 16 * suc i + n ≡ length (row_of table place 0 16) + (16 * i + n) = omega (arith, length-row_of table place 0 16) in
    ap (λ (k : ℕ). get_or (row_of table place 0 16 ++ all_rows table others) k none) e
    ∙ get_or-append-add (row_of table place 0 16) (all_rows table others) (16 * i + n) none
    ∙ get_or-all_rows table others i n (omega (arith, lt)) small

get_or-entries : (ps : List Walk) (ns ss : List ℕ) (i : ℕ) → i < length ns → length ns ≡ length ss → get_or (entries ps ns ss) i none ≡ (symbols (get_or ss i 0), place_at ps (get_or ns i 0))
get_or-entries ps [] ss i lt same = absurd (omega arith)
get_or-entries ps (n ∷ ns) [] i lt same = absurd (omega (arith, same))
get_or-entries ps (n ∷ ns) (s ∷ ss) zero lt same = refl
get_or-entries ps (n ∷ ns) (s ∷ ss) (suc i) lt same = get_or-entries ps ns ss i (omega (arith, lt)) (omega (arith, same))

pub length-next_states : length NEXT_STATES ≡ 4096
length-next_states = refl

pub length-symbols : length SYMBOLS ≡ 4096
length-symbols = refl

pub length-places : length places ≡ 256
unfolding places rows
length-places = refl

-- what an entry says
pub entry_says : (state n : ℕ) → state < 256 → n < 16 → walked rows (place_at places state) (four n) ≡ (symbols (get_or SYMBOLS (16 * state + n) 0), place_at places (get_or NEXT_STATES (16 * state + n) 0))
entry_says state n lt small =
    sym (get_or-all_rows rows places state n (omega (arith, lt, length-places)) small)
    ∙ ap (λ (xs : List (List ℕ × Walk)). get_or xs (16 * state + n) none) tables_say
    ∙ get_or-entries places NEXT_STATES SYMBOLS (16 * state + n) (omega (arith, lt, small, length-next_states)) (length-next_states ∙ sym length-symbols)

-- ---- where a string may end

abbrev pub ends_from : ℕ → ℕ → List Bool
ends_from state zero = []
ends_from state (suc count) = list_any (λ y. nat_eq y state) PADDINGS ∷ ends_from (state + 1) count

get_or-ends_from : (state count i : ℕ) → i < count → get_or (ends_from state count) i false ≡ list_any (λ y. nat_eq y (state + i)) PADDINGS
get_or-ends_from state zero i lt = absurd (omega arith)
get_or-ends_from state (suc count) zero lt = ap (λ (k : ℕ). list_any (λ y. nat_eq y k) PADDINGS) (sym (add-zero state))
get_or-ends_from state (suc count) (suc i) lt =
    let same : state + 1 + i ≡ state + suc i = omega arith in
    get_or-ends_from (state + 1) count i (omega (arith, lt)) ∙ ap (λ (k : ℕ). list_any (λ y. nat_eq y k) PADDINGS) same

ends_say : ends_from 0 256 ≡ map is_padding places
unfolding places rows
ends_say = refl

pub end_says : (state : ℕ) → state < 256 → list_any (λ y. nat_eq y state) PADDINGS ≡ is_padding (place_at places state)
end_says state lt =
    ap (λ (k : ℕ). list_any (λ y. nat_eq y k) PADDINGS) (sym (zero-add state))
    ∙ sym (get_or-ends_from 0 256 state lt)
    ∙ ap (λ (xs : List Bool). get_or xs state false) ends_say
    ∙ get_or-map is_padding places state start false (omega (arith, lt, length-places))

-- ---- a byte is twice four bits

pub bits_of_byte : (b : ℕ) → bits_of (b ∷ []) ≡ four (b / 16) ++ four (b % 16)
bits_of_byte b =
    let a1 : b / 16 / 8 ≡ b / 128 = omega arith in
    let a2 : b / 16 / 4 % 2 ≡ b / 64 % 2 = omega arith in
    let a3 : b / 16 / 2 % 2 ≡ b / 32 % 2 = omega arith in
    let a5 : b % 16 / 8 ≡ b / 8 % 2 = omega arith in
    let a6 : b % 16 / 4 % 2 ≡ b / 4 % 2 = omega arith in
    let a7 : b % 16 / 2 % 2 ≡ b / 2 % 2 = omega arith in
    let a8 : b % 16 % 2 ≡ b % 2 = omega arith in
    cc

-- ---- going on by four bits

pub four_marked : (state n symbol : ℕ) → state < 256 → n < 16 → symbol ≡ get_or SYMBOLS (16 * state + n) 0 → symbol ≡ 256 → list_any is_end_mark (walked rows (place_at places state) (four n)).0 ≡ true
four_marked state n symbol lt small entry is =
    ap (λ (r : List ℕ × Walk). list_any is_end_mark r.0) (entry_says state n lt small) ∙ ap (λ (k : ℕ). list_any is_end_mark (symbols k)) (sym entry ∙ is)

pub symbols_byte : (symbol : ℕ) → symbol < 256 → symbols symbol ≡ symbol ∷ []
symbols_byte symbol lt = rw (le-ltb 256 symbol (omega arith)) refl

pub symbols_none : (symbol : ℕ) → 256 ≤ symbol → (symbol ≡ 256 → ⊥) → symbols symbol ≡ []
symbols_none symbol le other = rw (lt-ltb 256 symbol (omega arith)) refl

unmarked : (symbol : ℕ) → (symbol ≡ 256 → ⊥) → list_any is_end_mark (symbols symbol) ≡ false
unmarked symbol other =
    elim (cases_lt 256 symbol) [
      | inl above ↦ rw (lt-ltb 256 symbol above) refl
      | inr below ↦ rw (le-ltb 256 symbol below, ne_eqb symbol 256 other) refl
    ]

pub four_goes : (state n symbol next : ℕ) (old new : List ℕ) → state < 256 → n < 16 → symbol ≡ get_or SYMBOLS (16 * state + n) 0 → (symbol ≡ 256 → ⊥) → new ≡ old ++ symbols symbol → next ≡ get_or NEXT_STATES (16 * state + n) 0 → GoesFour state n old (Ok next) new
four_goes state n symbol next old new lt small entry other text after =
    let says = entry_says state n lt small in
    let done : (walked rows (place_at places state) (four n)).0 ≡ symbols symbol = ap (λ (r : List ℕ × Walk). r.0) says ∙ ap symbols (sym entry) in
    (ap (list_any is_end_mark) done ∙ unmarked symbol other, text ∙ ap (λ (t : List ℕ). old ++ t) (sym done), ap (place_at places) after ∙ sym (ap (λ (r : List ℕ × Walk). r.1) says))

-- ---- and by eight

halves : (state byte : ℕ) → walked rows (place_at places state) (bits_of (byte ∷ [])) ≡ with_front (walked rows (place_at places state) (four (byte / 16))).0 (walked rows (walked rows (place_at places state) (four (byte / 16))).1 (four (byte % 16)))
halves state byte = ap (walked rows (place_at places state)) (bits_of_byte byte) ∙ walked-append rows (place_at places state) (four (byte / 16)) (four (byte % 16))

-- the end mark stands in the first half, in the second, or in neither
pub first_marked : (state byte : ℕ) → list_any is_end_mark (walked rows (place_at places state) (four (byte / 16))).0 ≡ true → list_any is_end_mark (walked rows (place_at places state) (bits_of (byte ∷ []))).0 ≡ true
first_marked state byte marked =
    let one = walked rows (place_at places state) (four (byte / 16)) in
    let two = walked rows one.1 (four (byte % 16)) in
    ap (λ (r : List ℕ × Walk). list_any is_end_mark r.0) (halves state byte) ∙ list_any-append is_end_mark one.0 two.0 ∙ ap (λ (b : Bool). b || list_any is_end_mark two.0) marked

pub first_fails : (e : HpackFault) (state byte : ℕ) (old new : List ℕ) → GoesFour state (byte / 16) old (Err e) new → GoesByte state byte old (Err e) new
first_fails NoMemory state byte old new first = tt
first_fails BadHuffman state byte old new first = (first_marked state byte first.0, refl)
first_fails BadIndex state byte old new first = absurd cc
first_fails BadInteger state byte old new first = absurd cc
first_fails SizeUpdate state byte old new first = absurd cc
first_fails ListTooLarge state byte old new first = absurd cc

pub second_marked : (state byte middle : ℕ) (old between : List ℕ) → GoesFour state (byte / 16) old (Ok middle) between → list_any is_end_mark (walked rows (place_at places middle) (four (byte % 16))).0 ≡ true → list_any is_end_mark (walked rows (place_at places state) (bits_of (byte ∷ []))).0 ≡ true
second_marked state byte middle old between first marked =
    let one = walked rows (place_at places state) (four (byte / 16)) in
    let two = walked rows one.1 (four (byte % 16)) in
    let here : list_any is_end_mark two.0 ≡ true = ap (λ (w : Walk). list_any is_end_mark (walked rows w (four (byte % 16))).0) (sym first.2) ∙ marked in
    ap (λ (r : List ℕ × Walk). list_any is_end_mark r.0) (halves state byte) ∙ list_any-append is_end_mark one.0 two.0 ∙ or_right (list_any is_end_mark one.0) (list_any is_end_mark two.0) here

pub second_fails : (e : HpackFault) (state byte middle : ℕ) (old between new : List ℕ) → GoesFour state (byte / 16) old (Ok middle) between → GoesFour middle (byte % 16) between (Err e) new → GoesByte state byte old (Err e) new
second_fails NoMemory state byte middle old between new first second = tt
second_fails BadHuffman state byte middle old between new first second = (second_marked state byte middle old between first second.0, refl)
second_fails BadIndex state byte middle old between new first second = absurd cc
second_fails BadInteger state byte middle old between new first second = absurd cc
second_fails SizeUpdate state byte middle old between new first second = absurd cc
second_fails ListTooLarge state byte middle old between new first second = absurd cc

pub second_goes : (state byte middle next : ℕ) (old between new : List ℕ) → GoesFour state (byte / 16) old (Ok middle) between → GoesFour middle (byte % 16) between (Ok next) new → GoesByte state byte old (Ok next) new
second_goes state byte middle next old between new first second =
    let one = walked rows (place_at places state) (four (byte / 16)) in
    let two = walked rows one.1 (four (byte % 16)) in
    let same : walked rows (place_at places middle) (four (byte % 16)) ≡ two = ap (λ (w : Walk). walked rows w (four (byte % 16))) first.2 in
    let all = halves state byte in (
      ap (λ (r : List ℕ × Walk). list_any is_end_mark r.0) all ∙ list_any-append is_end_mark one.0 two.0
          ∙ or_from (list_any is_end_mark one.0) (list_any is_end_mark two.0) first.0 (ap (λ (r : List ℕ × Walk). list_any is_end_mark r.0) (sym same) ∙ second.0),
      second.1 ∙ ap (λ (t : List ℕ). t ++ (walked rows (place_at places middle) (four (byte % 16))).0) first.1 ∙ ap (λ (r : List ℕ × Walk). (old ++ one.0) ++ r.0) same
          ∙ append_assoc old one.0 two.0 ∙ ap (λ (r : List ℕ × Walk). old ++ r.0) (sym all),
      second.2 ∙ ap (λ (r : List ℕ × Walk). r.1) same ∙ sym (ap (λ (r : List ℕ × Walk). r.1) all),
    )

pub second_answers : (result : Result ℕ HpackFault) (state byte middle : ℕ) (old between new : List ℕ) → GoesFour state (byte / 16) old (Ok middle) between → GoesFour middle (byte % 16) between result new → GoesByte state byte old result new
second_answers (Ok next) state byte middle old between new first second = second_goes state byte middle next old between new first second
second_answers (Err e) state byte middle old between new first second = second_fails e state byte middle old between new first second
