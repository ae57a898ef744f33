-- Reading a string byte by byte.
use Rattle.std.proofs.Common.{◌≡◌, ℕ, ◌+◌, ◌<◌, ◌≤◌, ◌||◌, not, Bool, true, false, cond, List, [], ◌∷◌, ◌++◌, refl, sym, ap, ◌∙◌, append_assoc, Ok, Err, length, drop, get_or, subst}
use Rattle.std.proofs.lemmas.Bool.{or_from, or_right}
use Rattle.std.specs.List.{list_any}
use Rattle.std.proofs.lemmas.List.{append-nil, drop_all, drop_more}
use Rattle.std.proofs.lemmas.List.Folds.{list_any-append}
use Rattle.rx_hpack.specs.declared.fault.HpackFault.{HpackFault}
use Rattle.rx_hpack.specs.declared.fault.HpackFault.TheVariants.{BadHuffman, BadIndex, BadInteger, SizeUpdate, ListTooLarge, NoMemory}
use Rattle.rx_hpack.specs.Answers.{Fails}
use Rattle.rx_hpack.specs.Huffman.{rows, Walk, start, walked, bits_of, is_padding, is_end_mark, text_of}
use Rattle.rx_hpack.specs.HuffmanTables.{places, place_at, GoesByte}
use Rattle.rx_hpack.proofs.Takes.{err}
use Rattle.rx_hpack.proofs.HuffmanTableLemmas.{with_front, walked-append}

-- the text so far, the state, and the bytes that are left
pub record SoFar (coded text : List ℕ) (state : ℕ) (rest : List ℕ) : Type 0 where
  pub read : walked rows start (bits_of coded) ≡ with_front text (walked rows (place_at places state) (bits_of rest))
  pub no_end_mark : list_any is_end_mark text ≡ false

goes_on : (coded text : List ℕ) (state byte : ℕ) (rest : List ℕ) (next : ℕ) (new : List ℕ) → SoFar coded text state (byte ∷ rest) → GoesByte state byte text (Ok next) new → SoFar coded new next rest
goes_on coded text state byte rest next new so_far step =
    let one = walked rows (place_at places state) (bits_of (byte ∷ [])) in
    let more = walked rows (place_at places next) (bits_of rest) in
    let split : walked rows (place_at places state) (bits_of (byte ∷ rest)) ≡ with_front one.0 more =
    walked-append rows (place_at places state) (bits_of (byte ∷ [])) (bits_of rest) ∙ ap (λ (w : Walk). with_front one.0 (walked rows w (bits_of rest))) (sym step.2) in
    record {
      read = so_far.read ∙ ap (with_front text) split ∙ ap (λ (t : List ℕ). (t, more.1)) (sym (append_assoc text one.0 more.0) ∙ ap (λ (t : List ℕ). t ++ more.0) (sym step.1));
      no_end_mark = ap (list_any is_end_mark) step.1 ∙ list_any-append is_end_mark text one.0 ∙ or_from (list_any is_end_mark text) (list_any is_end_mark one.0) so_far.no_end_mark step.0;
    }

refused : (read : List ℕ × Walk) → list_any is_end_mark read.0 ≡ true → cond (list_any is_end_mark read.0 || not (is_padding read.1)) (err BadHuffman) (Ok read.0) ≡ Err BadHuffman
refused read h = ap (λ (b : Bool). cond (b || not (is_padding read.1)) (err BadHuffman) (Ok read.0)) h

ends_with : (coded text : List ℕ) (state byte : ℕ) (rest : List ℕ) → SoFar coded text state (byte ∷ rest) → list_any is_end_mark (walked rows (place_at places state) (bits_of (byte ∷ []))).0 ≡ true → text_of coded ≡ Err BadHuffman
unfolding text_of
ends_with coded text state byte rest so_far marked =
    let one = walked rows (place_at places state) (bits_of (byte ∷ [])) in
    let more = walked rows one.1 (bits_of rest) in
    let split : walked rows start (bits_of coded) ≡ with_front text (with_front one.0 more) =
    so_far.read ∙ ap (with_front text) (walked-append rows (place_at places state) (bits_of (byte ∷ [])) (bits_of rest)) in
    let inner : list_any is_end_mark (one.0 ++ more.0) ≡ true = list_any-append is_end_mark one.0 more.0 ∙ ap (λ (b : Bool). b || list_any is_end_mark more.0) marked in
    let outer : list_any is_end_mark (text ++ (one.0 ++ more.0)) ≡ true = list_any-append is_end_mark text (one.0 ++ more.0) ∙ or_right (list_any is_end_mark text) (list_any is_end_mark (one.0 ++ more.0)) inner in
    refused (walked rows start (bits_of coded)) (ap (λ (r : List ℕ × Walk). list_any is_end_mark r.0) split ∙ outer)

fails : (e : HpackFault) (coded text : List ℕ) (state byte : ℕ) (rest new : List ℕ) → SoFar coded text state (byte ∷ rest) → GoesByte state byte text (Err e) new → Fails e (text_of coded)
fails NoMemory coded text state byte rest new so_far step = tt
fails BadHuffman coded text state byte rest new so_far step = ends_with coded text state byte rest so_far step.0
fails BadIndex coded text state byte rest new so_far step = absurd cc
fails BadInteger coded text state byte rest new so_far step = absurd cc
fails SizeUpdate coded text state byte rest new so_far step = absurd cc
fails ListTooLarge coded text state byte rest new so_far step = absurd cc

-- What is left once all bytes are read is padding, or it isn't.
is_done : (coded text : List ℕ) (state : ℕ) → SoFar coded text state [] → text_of coded ≡ cond (not (is_padding (place_at places state))) (Err BadHuffman) (Ok text)
unfolding text_of walked
is_done coded text state so_far =
    let place = place_at places state in
    let whole : walked rows start (bits_of coded) ≡ (text, place) = so_far.read ∙ ap (λ (t : List ℕ). (t, place)) (append-nil text) in
    ap (λ (r : List ℕ × Walk). cond (list_any is_end_mark r.0 || not (is_padding r.1)) (err BadHuffman) (Ok r.0)) whole
    ∙ ap (λ (b : Bool). cond (b || not (is_padding place)) (err BadHuffman) (Ok text)) so_far.no_end_mark

pub at_the_start : (coded : List ℕ) → SoFar coded [] 0 coded
unfolding places rows
at_the_start coded = record { read = refl; no_end_mark = refl }

-- ---- the same at the byte of an index

pub goes_on_at : (coded text : List ℕ) (state i next : ℕ) (new : List ℕ) → i < length coded → SoFar coded text state (drop i coded) → GoesByte state (get_or coded i 0) text (Ok next) new → SoFar coded new next (drop (i + 1) coded)
goes_on_at coded text state i next new lt so_far step =
    goes_on coded text state (get_or coded i 0) (drop (i + 1) coded) next new (subst (SoFar coded text state) (drop_more coded i 0 lt) so_far) step

pub fails_at : (e : HpackFault) (coded text : List ℕ) (state i : ℕ) (new : List ℕ) → i < length coded → SoFar coded text state (drop i coded) → GoesByte state (get_or coded i 0) text (Err e) new → Fails e (text_of coded)
fails_at e coded text state i new lt so_far step =
    fails e coded text state (get_or coded i 0) (drop (i + 1) coded) new (subst (SoFar coded text state) (drop_more coded i 0 lt) so_far) step

at_the_end : (coded text : List ℕ) (state i : ℕ) (padding : Bool) → length coded ≤ i → SoFar coded text state (drop i coded) → padding ≡ is_padding (place_at places state) → text_of coded ≡ cond (not padding) (err BadHuffman) (Ok text)
at_the_end coded text state i padding le so_far is =
    is_done coded text state (subst (SoFar coded text state) (drop_all i coded le) so_far) ∙ ap (λ (b : Bool). cond (not b) (err BadHuffman) (Ok text)) (sym is)

pub ends_badly : (coded text : List ℕ) (state i : ℕ) → length coded ≤ i → SoFar coded text state (drop i coded) → false ≡ is_padding (place_at places state) → text_of coded ≡ Err BadHuffman
ends_badly coded text state i = at_the_end coded text state i false

pub ends_well : (coded text : List ℕ) (state i : ℕ) → length coded ≤ i → SoFar coded text state (drop i coded) → true ≡ is_padding (place_at places state) → text_of coded ≡ Ok text
ends_well coded text state i = at_the_end coded text state i true
