-- Dropping the oldest entries until the others fit leaves the newest that fit.
use Rattle.std.proofs.Common.{◌≡◌, ℕ, ◌+◌, ◌-◌, ◌<◌, ◌≤◌, inl, inr, List, [], ◌∷◌, ◌++◌, refl, sym, ap, ◌∙◌, arith}
use Rattle.std.proofs.lemmas.Bool.{cases_lt, lt-ltb, le-ltb}
use Rattle.rx_hpack.specs.declared.header.Header.{Header}
use Rattle.rx_hpack.specs.Header.{Field, entry_size, size_of, view, views}
use Rattle.rx_hpack.specs.DynamicTable.{fitting}
use Rattle.std.proofs.lemmas.List.{map-append}

pub fitting_short : (room : ℕ) (field : Field) (fields : List Field) → room < entry_size field → fitting room (field ∷ fields) ≡ []
fitting_short room field fields lt = rw (lt-ltb room (entry_size field) lt) refl

pub fitting_long : (room : ℕ) (field : Field) (fields : List Field) → entry_size field ≤ room → fitting room (field ∷ fields) ≡ field ∷ fitting (room - entry_size field) fields
fitting_long room field fields le = rw (le-ltb room (entry_size field) le) refl

-- what fits as a whole stays
pub fitting_all : (room : ℕ) (fields : List Field) → size_of fields ≤ room → fitting room fields ≡ fields
fitting_all room [] le = refl
fitting_all room (field ∷ fields) le =
    fitting_long room field fields (omega (arith, le)) ∙ ap (λ (x : List Field). field ∷ x) (fitting_all (room - entry_size field) fields (omega (arith, le)))

pub size_of_last : (fields : List Field) (last : Field) → size_of (fields ++ last ∷ []) ≡ size_of fields + entry_size last
size_of_last [] last = omega arith
size_of_last (field ∷ fields) last = omega (arith, size_of_last fields last)

-- where not all fit, the oldest doesn't stay
pub fitting_drops : (room : ℕ) (fields : List Field) (last : Field) → room < size_of (fields ++ last ∷ []) → fitting room (fields ++ last ∷ []) ≡ fitting room fields
fitting_drops room [] last lt = fitting_short room last [] (omega (arith, lt))
fitting_drops room (field ∷ fields) last lt =
    elim (cases_lt room (entry_size field)) [
      | inl short ↦ fitting_short room field (fields ++ last ∷ []) short ∙ sym (fitting_short room field fields short)
      | inr long ↦
          fitting_long room field (fields ++ last ∷ []) long
          ∙ ap (λ (x : List Field). field ∷ x) (fitting_drops (room - entry_size field) fields last (omega (arith, lt)))
          ∙ sym (fitting_long room field fields long)
    ]

-- old entries, those that are left, and the size of these
pub record Evicts (room : ℕ) (old left : List Field) (size : ℕ) : Type 0 where
  pub same : fitting room left ≡ fitting room old
  pub sum : size ≡ size_of left

-- ---- one step: the oldest header is taken out

views_last : (headers left : List Header) (oldest : Header) → headers ≡ left ++ oldest ∷ [] → views headers ≡ views left ++ view oldest ∷ []
views_last headers left oldest e = ap views e ∙ map-append view left (oldest ∷ [])

pub oldest_fits : (room : ℕ) (old : List Field) (headers left : List Header) (oldest : Header) (size : ℕ) → headers ≡ left ++ oldest ∷ [] → Evicts room old (views headers) size → entry_size (view oldest) ≤ size
oldest_fits room old headers left oldest size e so_far =
    let same : size_of (views headers) ≡ size_of (views left ++ view oldest ∷ []) = ap size_of (views_last headers left oldest e) in
    let sum = size_of_last (views left) (view oldest) in
    omega (arith, so_far.sum, same, sum)

pub evicts_more : (room : ℕ) (old : List Field) (headers left : List Header) (oldest : Header) (size dropped : ℕ) → room < size → headers ≡ left ++ oldest ∷ [] → dropped ≡ entry_size (view oldest) → Evicts room old (views headers) size → Evicts room old (views left) (size - dropped)
evicts_more room old headers left oldest size dropped lt e is so_far =
    let parts = views_last headers left oldest e in
    let same : size_of (views headers) ≡ size_of (views left ++ view oldest ∷ []) = ap size_of parts in
    let sum = size_of_last (views left) (view oldest) in
    record {
      same = sym (fitting_drops room (views left) (view oldest) (omega (arith, so_far.sum, same))) ∙ sym (ap (fitting room) parts) ∙ so_far.same;
      sum = omega (arith, so_far.sum, same, sum, is);
    }

pub evicts_done : (room : ℕ) (old left : List Field) (size : ℕ) → size ≤ room → Evicts room old left size → left ≡ fitting room old
evicts_done room old left size le so_far = sym (fitting_all room left (omega (arith, so_far.sum))) ∙ so_far.same
