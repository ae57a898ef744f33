-- A text that is read from the Huffman code is spelled so, and one that is spelled is read.
use Rattle.std.proofs.Common.{◌≡◌, ℕ, ◌+◌, ◌<◌, ◌||◌, not, zero, suc, Bool, true, false, cond, List, [], ◌∷◌, ◌++◌, get_or, replicate, Result, Ok, refl, sym, ap, ◌∙◌, append_assoc, arith, add-zero, zero-add}
use Rattle.std.specs.List.{flat_map, list_any, AllByRecursion}
use Rattle.std.proofs.lemmas.Bool.{ne_eqb}
use Rattle.std.proofs.lemmas.List.{append-nil}
use Rattle.rx_hpack.specs.declared.fault.HpackFault.{HpackFault}
use Rattle.rx_hpack.specs.declared.fault.HpackFault.TheVariants.{BadHuffman}
use Rattle.rx_hpack.specs.Huffman.{rows, code, bits_of, IsHuffman, Walk, start, step, walked, is_padding, is_end_mark, text_of}
use Rattle.rx_hpack.proofs.Takes.{err}
use Rattle.rx_hpack.proofs.HuffmanTableLemmas.{with_front, walked-append}

-- ---- a code is read as its symbol

abbrev codes_read : ℕ → ℕ → List (List ℕ × Walk)
codes_read symbol zero = []
codes_read symbol (suc count) = walked rows start (code symbol) ∷ codes_read (symbol + 1) count

abbrev single : ℕ → List ℕ × Walk
single symbol = (symbol ∷ [], start)

abbrev singles : ℕ → ℕ → List (List ℕ × Walk)
singles symbol zero = []
singles symbol (suc count) = single symbol ∷ singles (symbol + 1) count

all_codes : codes_read 0 257 ≡ singles 0 257
unfolding rows step walked
all_codes = refl

get_or-codes_read : (symbol count i : ℕ) → i < count → get_or (codes_read symbol count) i (single 0) ≡ walked rows start (code (symbol + i))
get_or-codes_read symbol zero i lt = absurd (omega arith)
get_or-codes_read symbol (suc count) zero lt = ap (λ (k : ℕ). walked rows start (code k)) (sym (add-zero symbol))
get_or-codes_read symbol (suc count) (suc i) lt =
    let same : symbol + 1 + i ≡ symbol + suc i = omega arith in
    get_or-codes_read (symbol + 1) count i (omega (arith, lt)) ∙ ap (λ (k : ℕ). walked rows start (code k)) same

get_or-singles : (symbol count i : ℕ) → i < count → get_or (singles symbol count) i (single 0) ≡ single (symbol + i)
get_or-singles symbol zero i lt = absurd (omega arith)
get_or-singles symbol (suc count) zero lt = ap single (sym (add-zero symbol))
get_or-singles symbol (suc count) (suc i) lt =
    let same : symbol + 1 + i ≡ symbol + suc i = omega arith in
    get_or-singles (symbol + 1) count i (omega (arith, lt)) ∙ ap single same

code_again : (symbol : ℕ) → symbol < 257 → walked rows start (code symbol) ≡ single symbol
code_again symbol lt =
    ap (λ (k : ℕ). walked rows start (code k)) (sym (zero-add symbol)) ∙ sym (get_or-codes_read 0 257 symbol lt)
    ∙ ap (λ (xs : List (List ℕ × Walk)). get_or xs symbol (single 0)) all_codes ∙ get_or-singles 0 257 symbol lt ∙ ap single (zero-add symbol)

codes_again : (text tail : List ℕ) → AllByRecursion (λ symbol. symbol < 256) text → walked rows start (flat_map code text ++ tail) ≡ with_front text (walked rows start tail)
codes_again [] tail h = refl
codes_again (symbol ∷ text) tail h =
    let more = flat_map code text ++ tail in
    ap (walked rows start) (append_assoc (code symbol) (flat_map code text) tail)
    ∙ walked-append rows start (code symbol) more
    ∙ ap (λ (r : List ℕ × Walk). with_front r.0 (walked rows r.1 more)) (code_again symbol (omega (arith, h.0)))
    ∙ ap (with_front (symbol ∷ [])) (codes_again text tail h.1)

-- ---- padding

abbrev padding_read : ℕ → List ℕ × Bool
padding_read count = ((walked rows start (replicate count 1)).0, is_padding (walked rows start (replicate count 1)).1)

abbrev paddings : ℕ → ℕ → List (List ℕ × Bool)
paddings size zero = []
paddings size (suc count) = padding_read size ∷ paddings (size + 1) count

all_paddings : paddings 0 8 ≡ replicate 8 ([], true)
unfolding rows step walked
all_paddings = refl

get_or-paddings : (size count i : ℕ) → i < count → get_or (paddings size count) i ([], true) ≡ padding_read (size + i)
get_or-paddings size zero i lt = absurd (omega arith)
get_or-paddings size (suc count) zero lt = ap padding_read (sym (add-zero size))
get_or-paddings size (suc count) (suc i) lt =
    let same : size + 1 + i ≡ size + suc i = omega arith in
    get_or-paddings (size + 1) count i (omega (arith, lt)) ∙ ap padding_read same

get_or-same : (count i : ℕ) (x : List ℕ × Bool) → get_or (replicate count x) i x ≡ x
get_or-same zero i x = refl
get_or-same (suc count) zero x = refl
get_or-same (suc count) (suc i) x = get_or-same count i x

padding_again : (size : ℕ) → size < 8 → padding_read size ≡ ([], true)
padding_again size lt =
    ap padding_read (sym (zero-add size)) ∙ sym (get_or-paddings 0 8 size lt)
    ∙ ap (λ (xs : List (List ℕ × Bool)). get_or xs size ([], true)) all_paddings ∙ get_or-same 8 size ([], true)

no_end_marks : (text : List ℕ) → AllByRecursion (λ symbol. symbol < 256) text → list_any is_end_mark text ≡ false
no_end_marks [] h = refl
no_end_marks (symbol ∷ text) h =
    let other : symbol ≡ 256 → ⊥ = λ e. omega (arith, h.0, e) in
    rw (ne_eqb symbol 256 other) (no_end_marks text h.1)

abbrev pub judged : List ℕ × Walk → Result (List ℕ) HpackFault
judged read = cond (list_any is_end_mark read.0 || not (is_padding read.1)) (err BadHuffman) (Ok read.0)

pub text_of-judged : (coded : List ℕ) → text_of coded ≡ judged (walked rows start (bits_of coded))
unfolding text_of
text_of-judged coded = refl

judged_ok : (text : List ℕ) (place : Walk) → list_any is_end_mark text ≡ false → is_padding place ≡ true → judged (text, place) ≡ Ok text
judged_ok text place no_end padding = rw (no_end, padding) refl

pub text_again : (coded text : List ℕ) → IsHuffman coded text → text_of coded ≡ Ok text
text_again coded text h =
    let ones = walked rows start (replicate h.padding 1) in
    let pad = padding_again h.padding h.short in
    let none : ones.0 ≡ [] = ap (λ (p : List ℕ × Bool). p.0) pad in
    let is_pad : is_padding ones.1 ≡ true = ap (λ (p : List ℕ × Bool). p.1) pad in
    let whole : walked rows start (bits_of coded) ≡ (text, ones.1) =
    ap (walked rows start) h.spelled ∙ codes_again text (replicate h.padding 1) h.bytes ∙ ap (λ (t : List ℕ). (text ++ t, ones.1)) none ∙ ap (λ (t : List ℕ). (t, ones.1)) (append-nil text) in
    text_of-judged coded ∙ ap judged whole ∙ judged_ok text ones.1 (no_end_marks text h.bytes) is_pad
