-- Keeping a header in the list.
use Rattle.std.proofs.Common.{◌≡◌, ℕ, ◌+◌, ◌-◌, ◌≤◌, inl, inr, List, [], ◌∷◌, ◌++◌, Ok, Err, refl, sym, ap, ◌∙◌, arith}
use Rattle.std.proofs.lemmas.Bool.{cases_lt, lt-ltb, le-ltb}
use Rattle.std.proofs.lemmas.List.{map-append}
use Rattle.rx_hpack.specs.declared.fault.HpackFault.TheVariants.{ListTooLarge}
use Rattle.rx_hpack.specs.declared.header.Header.{Header}
use Rattle.rx_hpack.specs.Header.{Field, entry_size, size_of, view, views}
use Rattle.rx_hpack.specs.HeaderList.{kept}
use Rattle.rx_hpack.proofs.TableLemmas.{size_of_last}

pub kept_refused : (fields : List Field) (field : Field) (size : ℕ) → size ≡ size_of fields → size ≤ 65536 → (entry_size field ≤ 65536 - size → ⊥) → kept fields field ≡ Err ListTooLarge
unfolding kept
kept_refused fields field size is small full =
    elim (cases_lt 65536 (size_of fields + entry_size field)) [
      | inl large ↦ rw (lt-ltb 65536 (size_of fields + entry_size field) large) refl
      | inr fits ↦ absurd (full (omega (arith, fits, is, small)))
    ]

pub kept_fits : (fields : List Field) (field : Field) (size : ℕ) → size ≡ size_of fields → size ≤ 65536 → entry_size field ≤ 65536 - size → kept fields field ≡ Ok (fields ++ field ∷ [])
unfolding kept
kept_fits fields field size is small fits = rw (le-ltb 65536 (size_of fields + entry_size field) (omega (arith, fits, is, small))) refl

pub views_pushed : (headers new : List Header) (header : Header) → new ≡ headers ++ header ∷ [] → views new ≡ views headers ++ view header ∷ []
views_pushed headers new header e = ap views e ∙ map-append view headers (header ∷ [])

pub size_pushed : (headers new : List Header) (header : Header) (size more : ℕ) → new ≡ headers ++ header ∷ [] → size ≡ size_of (views headers) → more ≡ entry_size (view header) → size + more ≡ size_of (views new)
size_pushed headers new header size more e is is_more =
    let sum = size_of_last (views headers) (view header) in
    let same : size_of (views new) ≡ size_of (views headers ++ view header ∷ []) = ap size_of (views_pushed headers new header e) in
    omega (arith, is, is_more, sum, same)

pub kept_pushed : (headers new : List Header) (header : Header) (size : ℕ) → new ≡ headers ++ header ∷ [] → size ≡ size_of (views headers) → size ≤ 65536 → entry_size (view header) ≤ 65536 - size → kept (views headers) (view header) ≡ Ok (views new)
kept_pushed headers new header size e is small fits =
    kept_fits (views headers) (view header) size is small fits ∙ ap (λ (fields : List Field). Ok fields) (sym (views_pushed headers new header e))
