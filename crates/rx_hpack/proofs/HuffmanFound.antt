-- A text that is read from the Huffman code is spelled so.
use Rattle.std.proofs.Common.{◌≡◌, ℕ, ◌+◌, ◌-◌, ◌^◌, ◌<◌, ◌||◌, ◌&&◌, not, zero, suc, Bool, true, false, nat_lt, nat_eq, List, [], ◌∷◌, ◌++◌, length, get_or, map, replicate, position, unwrap_or, Ok, refl, sym, ap, subst, ◌∙◌, append_assoc, arith, add-zero, zero-add, lit<}
use Rattle.std.specs.List.{flat_map, list_any, list_all, AllByRecursion}
use Rattle.std.proofs.lemmas.Bool.{ltb-true, eqb-true, and_parts, or_parts}
use Rattle.std.proofs.lemmas.Bool.Decides.{nat_tests}
use Rattle.std.proofs.lemmas.List.{append-nil, get_or-map}
use Rattle.std.proofs.lemmas.Grind.{flat_map-append}
use Rattle.rx_hpack.specs.declared.fault.HpackFault.TheVariants.{BadHuffman}
use Rattle.rx_hpack.specs.Huffman.{rows, bits, code, bits_of, IsHuffman, Walk, start, step, walked, is_padding, is_end_mark, text_of}
use Rattle.rx_hpack.specs.HuffmanTables.{places, place_at}
use Rattle.rx_hpack.proofs.Takes.{IsBytes, IsBytes-rest, guard_ok}
use Rattle.rx_hpack.proofs.HuffmanTableLemmas.{length-places}
use Rattle.rx_hpack.proofs.HuffmanLemmas.{text_of-judged}

-- the bits that lead to a place
abbrev path : Walk → List ℕ
path place = bits place.size place.code

-- ---- one bit from a place leads along the codes, to a place

abbrev before : ℕ → Walk → List ℕ
before bit place = path place ++ bit ∷ []

abbrev after : ℕ → Walk → List ℕ
after bit place = flat_map code (step rows place bit).0 ++ path (step rows place bit).1

abbrev target : ℕ → Walk → Walk
target bit place = (step rows place bit).1

abbrev is_same : Walk → Walk → Bool
is_same a b = nat_eq a.size b.size && nat_eq a.code b.code

abbrev number : ℕ → Walk → ℕ
number bit place = unwrap_or (position (is_same (target bit place)) places) 0

abbrev is_small : ℕ → Walk → Bool
is_small bit place = list_all (λ symbol. nat_lt symbol 257) (step rows place bit).0 && nat_lt (number bit place) 256

record Checked (bit : ℕ) : Type 0 where
  along : map (before bit) places ≡ map (after bit) places
  arrives : map (λ place. place_at places (number bit place)) places ≡ map (target bit) places
  small : map (is_small bit) places ≡ map (λ place. true) places

checked_zero : Checked 0
unfolding rows step places
checked_zero = record { along = refl; arrives = refl; small = refl }

checked_one : Checked 1
unfolding rows step places
checked_one = record { along = refl; arrives = refl; small = refl }

checked : (bit : ℕ) → bit < 2 → Checked bit
checked zero lt = checked_zero
checked (suc zero) lt = checked_one
checked (suc (suc bit)) lt = absurd (omega arith)

all_below : (xs : List ℕ) → list_all (λ symbol. nat_lt symbol 257) xs ≡ true → AllByRecursion (λ symbol. symbol < 257) xs
all_below [] h = tt
all_below (x ∷ xs) h =
    let b = and_parts (nat_lt x 257) (list_all (λ symbol. nat_lt symbol 257) xs) h in
    (ltb-true x 257 b.0, all_below xs b.1)

record Moves (state bit : ℕ) : Type 0 where
  next : ℕ
  below : next < 256
  place : place_at places next ≡ (step rows (place_at places state) bit).1
  along : path (place_at places state) ++ bit ∷ [] ≡ flat_map code (step rows (place_at places state) bit).0 ++ path (place_at places next)
  symbols : AllByRecursion (λ symbol. symbol < 257) (step rows (place_at places state) bit).0

moves : (state bit : ℕ) → state < 256 → bit < 2 → Moves state bit
moves state bit lt small =
    let here = place_at places state in
    let c = checked bit small in
    let inside : state < length places = omega (arith, lt, length-places) in
    let fine : is_small bit here ≡ true =
    sym (get_or-map (is_small bit) places state start true inside) ∙ ap (λ (xs : List Bool). get_or xs state true) c.small ∙ get_or-map (λ place. true) places state start true inside in
    let both = and_parts (list_all (λ symbol. nat_lt symbol 257) (step rows here bit).0) (nat_lt (number bit here) 256) fine in
    let arrives : place_at places (number bit here) ≡ target bit here =
    sym (get_or-map (λ place. place_at places (number bit place)) places state start start inside) ∙ ap (λ (xs : List Walk). get_or xs state start) c.arrives ∙ get_or-map (target bit) places state start start inside in
    let along : before bit here ≡ after bit here =
    sym (get_or-map (before bit) places state start [] inside) ∙ ap (λ (xs : List (List ℕ)). get_or xs state []) c.along ∙ get_or-map (after bit) places state start [] inside in
    record {
      next = number bit here;
      below = ltb-true (number bit here) 256 both.1;
      place = arrives;
      along = along ∙ ap (λ (w : Walk). flat_map code (step rows here bit).0 ++ path w) (sym arrives);
      symbols = all_below (step rows here bit).0 both.0;
    }

-- ---- all bits

record Spelled (state : ℕ) (input : List ℕ) : Type 0 where
  along : path (place_at places state) ++ input ≡ flat_map code (walked rows (place_at places state) input).0 ++ path (walked rows (place_at places state) input).1
  symbols : AllByRecursion (λ symbol. symbol < 257) (walked rows (place_at places state) input).0

all_append : (xs ys : List ℕ) → AllByRecursion (λ symbol. symbol < 257) xs → AllByRecursion (λ symbol. symbol < 257) ys → AllByRecursion (λ symbol. symbol < 257) (xs ++ ys)
all_append [] ys p q = q
all_append (x ∷ xs) ys p q = (p.0, all_append xs ys p.1 q)

spelled : (state : ℕ) (input : List ℕ) → state < 256 → AllByRecursion (λ bit. bit < 2) input → Spelled state input
unfolding walked
spelled state [] lt h = record { along = append-nil (path (place_at places state)); symbols = tt }
spelled state (bit ∷ input) lt h =
    let here = place_at places state in
    let m = moves state bit lt h.0 in
    let one = step rows here bit in
    let r = walked rows one.1 input in
    let rest = spelled m.next input m.below h.1 in
    let same : walked rows (place_at places m.next) input ≡ r = ap (λ (w : Walk). walked rows w input) m.place in
    let tail : path (place_at places m.next) ++ input ≡ flat_map code r.0 ++ path r.1 = rest.along ∙ ap (λ (x : List ℕ × Walk). flat_map code x.0 ++ path x.1) same in
    record {
      along =
          sym (append_assoc (path here) (bit ∷ []) input)
          ∙ ap (λ (t : List ℕ). t ++ input) m.along
          ∙ append_assoc (flat_map code one.0) (path (place_at places m.next)) input
          ∙ ap (λ (t : List ℕ). flat_map code one.0 ++ t) tail
          ∙ sym (append_assoc (flat_map code one.0) (flat_map code r.0) (path r.1))
          ∙ ap (λ (t : List ℕ). t ++ path r.1) (sym (flat_map-append code one.0 r.0));
      symbols = all_append one.0 r.0 m.symbols (subst (λ (x : List ℕ × Walk). AllByRecursion (λ symbol. symbol < 257) x.0) same rest.symbols);
    }

are_bits : (bytes : List ℕ) → IsBytes bytes → AllByRecursion (λ bit. bit < 2) (bits_of bytes)
are_bits [] fits = tt
are_bits (b ∷ bytes) fits =
    let small : b < 256 = fits 0 in
    (omega (arith, small), (omega arith, (omega arith, (omega arith, (omega arith, (omega arith, (omega arith, (omega arith, are_bits bytes (IsBytes-rest b bytes fits)))))))))

-- ---- padding

abbrev paths : ℕ → ℕ → List (List ℕ)
paths size zero = []
paths size (suc count) = bits size (2 ^ size - 1) ∷ paths (size + 1) count

abbrev ones : ℕ → ℕ → List (List ℕ)
ones size zero = []
ones size (suc count) = replicate size 1 ∷ ones (size + 1) count

get_or-paths : (size count i : ℕ) → i < count → get_or (paths size count) i [] ≡ bits (size + i) (2 ^ (size + i) - 1)
get_or-paths size zero i lt = absurd (omega arith)
get_or-paths size (suc count) zero lt = ap (λ (k : ℕ). bits k (2 ^ k - 1)) (sym (add-zero size))
get_or-paths size (suc count) (suc i) lt =
    let same : size + 1 + i ≡ size + suc i = omega arith in
    get_or-paths (size + 1) count i (omega (arith, lt)) ∙ ap (λ (k : ℕ). bits k (2 ^ k - 1)) same

get_or-ones : (size count i : ℕ) → i < count → get_or (ones size count) i [] ≡ replicate (size + i) 1
get_or-ones size zero i lt = absurd (omega arith)
get_or-ones size (suc count) zero lt = ap (λ (k : ℕ). replicate k 1) (sym (add-zero size))
get_or-ones size (suc count) (suc i) lt =
    let same : size + 1 + i ≡ size + suc i = omega arith in
    get_or-ones (size + 1) count i (omega (arith, lt)) ∙ ap (λ (k : ℕ). replicate k 1) same

all_ones : paths 0 8 ≡ ones 0 8
all_ones = refl

path_of_padding : (place : Walk) → is_padding place ≡ true → (place.size < 8) × (path place ≡ replicate place.size 1)
path_of_padding place h =
    let both = and_parts (nat_lt place.size 8) (nat_eq (place.code + 1) (2 ^ place.size)) h in
    let short = ltb-true place.size 8 both.0 in
    let last : place.code ≡ 2 ^ place.size - 1 = omega (arith, eqb-true (place.code + 1) (2 ^ place.size) both.1) in (
      short,
      ap (bits place.size) last ∙ ap (λ (k : ℕ). bits k (2 ^ k - 1)) (sym (zero-add place.size)) ∙ sym (get_or-paths 0 8 place.size short)
          ∙ ap (λ (xs : List (List ℕ)). get_or xs place.size []) all_ones ∙ get_or-ones 0 8 place.size short ∙ ap (λ (k : ℕ). replicate k 1) (zero-add place.size),
    )

-- ---- a whole string

neither : (a b : Bool) → (a || not b) ≡ false → (a ≡ false) × (b ≡ true)
neither true b h = absurd cc
neither false true h = (refl, refl)
neither false false h = absurd cc

not_equal : (a b : ℕ) → nat_eq a b ≡ false → a ≡ b → ⊥
not_equal a b h e = grind (arith, nat_tests)

are_text : (symbols : List ℕ) → AllByRecursion (λ symbol. symbol < 257) symbols → list_any is_end_mark symbols ≡ false → AllByRecursion (λ symbol. symbol < 256) symbols
are_text [] h none = tt
are_text (symbol ∷ symbols) h none =
    let both = or_parts (nat_eq symbol 256) (list_any is_end_mark symbols) none in
    (let other : symbol ≡ 256 → ⊥ = not_equal symbol 256 both.0 in omega (arith, h.0, other), are_text symbols h.1 both.1)

at_start : place_at places 0 ≡ start
unfolding places rows
at_start = refl

pub text_takes : (coded text : List ℕ) → IsBytes coded → text_of coded ≡ Ok text → IsHuffman coded text
text_takes coded text fits e =
    let r = walked rows start (bits_of coded) in
    let g = guard_ok (list_any is_end_mark r.0 || not (is_padding r.1)) BadHuffman r.0 text (sym (text_of-judged coded) ∙ e) in
    let n = neither (list_any is_end_mark r.0) (is_padding r.1) g.0 in
    let s = spelled 0 (bits_of coded) (lit< tt) (are_bits coded fits) in
    let pad = path_of_padding r.1 n.1 in
    let along : bits_of coded ≡ flat_map code r.0 ++ path r.1 =
    ap (λ (w : Walk). path w ++ bits_of coded) (sym at_start) ∙ s.along ∙ ap (λ (w : Walk). flat_map code (walked rows w (bits_of coded)).0 ++ path (walked rows w (bits_of coded)).1) at_start in
    let symbols : AllByRecursion (λ symbol. symbol < 257) r.0 = subst (λ (w : Walk). AllByRecursion (λ symbol. symbol < 257) (walked rows w (bits_of coded)).0) at_start s.symbols in
    record {
      bytes = subst (AllByRecursion (λ symbol. symbol < 256)) g.1 (are_text r.0 symbols n.0);
      padding = r.1.size;
      short = pad.0;
      spelled = along ∙ ap (λ (t : List ℕ). flat_map code r.0 ++ t) pad.1 ∙ ap (λ (t : List ℕ). flat_map code t ++ replicate r.1.size 1) g.1;
    }
