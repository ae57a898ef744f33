-- A string that is read is spelled so, and one that is spelled is read.
use Rattle.std.proofs.Common.{◌≡◌, ℕ, ◌+◌, ◌-◌, ◌<◌, ◌≤◌, Bool, cond, inl, inr, nat_lt, List, [], ◌∷◌, ◌++◌, length, take, drop, Result, Ok, Err, refl, sym, ap, subst, ◌∙◌, append_assoc, zero-add, arith}
use Rattle.std.proofs.lemmas.Bool.{cases_lt, lt-ltb, le-ltb, ltb-false}
use Rattle.std.proofs.lemmas.List.{take_at, drop_at, take-append-drop, length-take, length-append}
use Rattle.rx_hpack.specs.declared.fault.HpackFault.{HpackFault}
use Rattle.rx_hpack.specs.declared.fault.HpackFault.TheVariants.{BadInteger}
use Rattle.rx_hpack.specs.Answers.{◌>>=◌}
use Rattle.rx_hpack.specs.Integer.{integer_at, IsInteger}
use Rattle.rx_hpack.specs.Huffman.{text_of}
use Rattle.rx_hpack.specs.Text.{part_at, string_at, IsPlain, IsCoded, IsString}
use Rattle.rx_hpack.proofs.Takes.{IsBytes, IsBytes-take, IsBytes-drop, IsBytes-rest, bind_ok, guard_ok, ok_is}
use Rattle.rx_hpack.proofs.IntegerLemmas.{integer_takes, integer_again}
use Rattle.rx_hpack.proofs.HuffmanLemmas.{text_again}
use Rattle.rx_hpack.proofs.HuffmanFound.{text_takes}

-- ---- a length and so many bytes

pub record PartTaken (form prefix : ℕ) (bytes part rest : List ℕ) : Type 0 where
  pub size : List ℕ
  pub is_size : IsInteger 127 form size (length part)
  pub parts : (form + prefix) ∷ bytes ≡ (size ++ part) ++ rest
  pub part_fits : IsBytes part
  pub rest_fits : IsBytes rest

abbrev split : ℕ × List ℕ → Result (List ℕ × List ℕ) HpackFault
split size = cond (nat_lt (length size.1) size.0) (Err BadInteger) (Ok (take size.0 size.1, drop size.0 size.1))

part_is : (prefix : ℕ) (bytes : List ℕ) → part_at prefix bytes ≡ (integer_at 127 prefix bytes >>= split)
unfolding part_at
part_is prefix bytes = refl

part_takes : (form prefix : ℕ) (bytes : List ℕ) (x : List ℕ × List ℕ) → prefix ≤ 127 → IsBytes bytes → part_at prefix bytes ≡ Ok x → PartTaken form prefix bytes x.0 x.1
part_takes form prefix bytes x small fits e =
    let h = bind_ok (integer_at 127 prefix bytes) split x (sym (part_is prefix bytes) ∙ e) in
    let size = h.0 in
    let t = integer_takes 127 form prefix bytes size small fits h.1 in
    let g = guard_ok (nat_lt (length size.1) size.0) BadInteger (take size.0 size.1, drop size.0 size.1) x h.2 in
    let long : size.0 ≤ length size.1 = ltb-false (length size.1) size.0 g.0 in
    let len : size.0 ≡ length (take size.0 size.1) = omega (arith, length-take size.0 size.1) in
    subst (λ (y : List ℕ × List ℕ). PartTaken form prefix bytes y.0 y.1) g.1
    (record {
      size = t.text;
      is_size = subst (IsInteger 127 form t.text) len t.is_integer;
      parts = t.parts ∙ ap (λ (w : List ℕ). t.text ++ w) (sym (take-append-drop size.0 size.1)) ∙ sym (append_assoc t.text (take size.0 size.1) (drop size.0 size.1));
      part_fits = IsBytes-take size.0 size.1 t.rest_fits;
      rest_fits = IsBytes-drop size.0 size.1 t.rest_fits;
    })

part_again : (prefix : ℕ) (more part rest : List ℕ) → integer_at 127 prefix (more ++ (part ++ rest)) ≡ Ok (length part, part ++ rest) → part_at prefix ((more ++ part) ++ rest) ≡ Ok (part, rest)
part_again prefix more part rest e =
    let long : length part ≤ length (part ++ rest) = omega (arith, length-append part rest) in
    part_is prefix ((more ++ part) ++ rest)
    ∙ ap (λ (w : List ℕ). integer_at 127 prefix w >>= split) (append_assoc more part rest)
    ∙ ap (λ (r : Result (ℕ × List ℕ) HpackFault). r >>= split) e
    ∙ ap (λ (t : Bool). cond t (Err BadInteger) (Ok (take (length part) (part ++ rest), drop (length part) (part ++ rest)))) (le-ltb (length (part ++ rest)) (length part) long)
    ∙ ap (λ (w : List ℕ). Ok (w, drop (length part) (part ++ rest))) (take_at part rest (length part) refl)
    ∙ ap (λ (w : List ℕ). Ok (part, w)) (drop_at part rest (length part) refl)

-- ---- strings

pub record StringTaken (bytes text rest : List ℕ) : Type 0 where
  pub front : List ℕ
  pub is_string : IsString front text
  pub parts : bytes ≡ front ++ rest
  pub rest_fits : IsBytes rest

abbrev uncoded : List ℕ × List ℕ → Result (List ℕ × List ℕ) HpackFault
uncoded coded = text_of coded.0 >>= λ text. Ok (text, coded.1)

string_plain : (first : ℕ) (bytes : List ℕ) → first < 128 → string_at (first ∷ bytes) ≡ part_at first bytes
unfolding string_at
string_plain first bytes lt = rw (lt-ltb first 128 lt) refl

string_coded : (first : ℕ) (bytes : List ℕ) → 128 ≤ first → string_at (first ∷ bytes) ≡ (part_at (first - 128) bytes >>= uncoded)
unfolding string_at
string_coded first bytes le = rw (le-ltb first 128 le) refl

no_string : (x : List ℕ × List ℕ) → string_at [] ≡ Ok x → ⊥
unfolding string_at
no_string x e = cc

pub string_takes : (bytes : List ℕ) (x : List ℕ × List ℕ) → IsBytes bytes → string_at bytes ≡ Ok x → StringTaken bytes x.0 x.1
string_takes [] x fits e = absurd (no_string x e)
string_takes (first ∷ bytes) x fits e =
    elim (cases_lt first 128) [
      | inl lt ↦
          let t = part_takes 0 first bytes x (omega arith) (IsBytes-rest first bytes fits) (sym (string_plain first bytes lt) ∙ e) in
          record {
            front = t.size ++ x.0;
            is_string = inl (record { size = t.size; is_size = t.is_size; spelled = refl });
            parts = ap (λ (b : ℕ). b ∷ bytes) (sym (zero-add first)) ∙ t.parts;
            rest_fits = t.rest_fits;
          }
      | inr le ↦
          let byte : first < 256 = fits 0 in
          let h = bind_ok (part_at (first - 128) bytes) uncoded x (sym (string_coded first bytes le) ∙ e) in
          let t = part_takes 128 (first - 128) bytes h.0 (omega (arith, byte)) (IsBytes-rest first bytes fits) h.1 in
          let u = bind_ok (text_of h.0.0) (λ text. Ok (text, h.0.1)) x h.2 in
          let coded = text_takes h.0.0 u.0 t.part_fits u.1 in
          let first-is : 128 + (first - 128) ≡ first = omega arith in
          subst (λ (y : List ℕ × List ℕ). StringTaken (first ∷ bytes) y.0 y.1) (ok_is (u.0, h.0.1) x u.2)
          (record {
            front = t.size ++ h.0.0;
            is_string = inr (record { coded = h.0.0; size = t.size; is_size = t.is_size; is_huffman = coded; spelled = refl });
            parts = ap (λ (b : ℕ). b ∷ bytes) (sym first-is) ∙ t.parts;
            rest_fits = t.rest_fits;
          })
    ]

plain_again : (front text rest : List ℕ) → IsPlain front text → string_at (front ++ rest) ≡ Ok (text, rest)
plain_again front text rest h =
    let a = integer_again 127 0 h.size (length text) (text ++ rest) h.is_size in
    let front-is : front ≡ a.prefix ∷ (a.more ++ text) = h.spelled ∙ ap (λ (w : List ℕ). w ++ text) a.spelled ∙ ap (λ (b : ℕ). b ∷ (a.more ++ text)) (zero-add a.prefix) in
    ap (λ (w : List ℕ). string_at (w ++ rest)) front-is
    ∙ string_plain a.prefix ((a.more ++ text) ++ rest) (omega (arith, a.small))
    ∙ part_again a.prefix a.more text rest a.again

coded_again : (front text rest : List ℕ) → IsCoded front text → string_at (front ++ rest) ≡ Ok (text, rest)
coded_again front text rest h =
    let a = integer_again 127 128 h.size (length h.coded) (h.coded ++ rest) h.is_size in
    let front-is : front ≡ (128 + a.prefix) ∷ (a.more ++ h.coded) = h.spelled ∙ ap (λ (w : List ℕ). w ++ h.coded) a.spelled in
    let prefix-is : 128 + a.prefix - 128 ≡ a.prefix = omega arith in
    ap (λ (w : List ℕ). string_at (w ++ rest)) front-is
    ∙ string_coded (128 + a.prefix) ((a.more ++ h.coded) ++ rest) (omega arith)
    ∙ ap (λ (k : ℕ). part_at k ((a.more ++ h.coded) ++ rest) >>= uncoded) prefix-is
    ∙ ap (λ (r : Result (List ℕ × List ℕ) HpackFault). r >>= uncoded) (part_again a.prefix a.more h.coded rest a.again)
    ∙ ap (λ (r : Result (List ℕ) HpackFault). r >>= λ text. Ok (text, rest)) (text_again h.coded text h.is_huffman)

pub string_again : (front text rest : List ℕ) → IsString front text → string_at (front ++ rest) ≡ Ok (text, rest)
string_again front text rest (inl h) = plain_again front text rest h
string_again front text rest (inr h) = coded_again front text rest h
