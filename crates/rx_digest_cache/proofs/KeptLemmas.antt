-- What is kept of each path after one is changed.
use Rattle.std.proofs.Common.{arith, ◌≡◌, ◌≤◌, ◌+◌, ◌==◌, ℕ, Bool, true, false, List, refl, ◌∙◌, sym, ap}
use Rattle.std.proofs.lemmas.Bool.Decides.{nat_tests}
use Rattle.std.proofs.lemmas.Bool.{false_from_ne_true}
use Rattle.std.proofs.lemmas.Slice.Eq.{bytes_eq-Decides}
use Rattle.std.proofs.lemmas.Map.Text.{is_eq-slice_cmp}
use Rattle.std.specs.Prelude.{◌≢◌, ◌&&◌, Option, None, Some, if◌then◌else◌, is_some, not}
use Rattle.std.specs.BTreeMap.{BTreeMap, UpdatesBy, is_at}
use Rattle.std.specs.Cmp.Lexicographic.{slice_cmp}
use Rattle.std.specs.Ordering.{nat_cmp}
use Rattle.std.specs.Str.{bytes_eq}
use Rattle.rx_world.specs.declared.looks.Stamp.{Stamp}
use Rattle.rx_digest_cache.specs.declared.kept.StampedDigest.{StampedDigest}
use Rattle.rx_digest_cache.specs.Kept.{AreTied, IsTied, Keeps, kept_at}

-- another path isn't found in the place of this one
apart-at : (path other : List ℕ) → other ≢ path → is_at (slice_cmp nat_cmp path) other ≡ false
apart-at path other apart = is_eq-slice_cmp path other ∙ false_from_ne_true _ (λ e. apart (sym ((bytes_eq-Decides path other).0 e)))

-- a map that was updated at a path keeps this of it
pub keeps-updated : (old new : BTreeMap (List ℕ) StampedDigest) (path : List ℕ) (entry : StampedDigest)
    → UpdatesBy (slice_cmp nat_cmp) (slice_cmp nat_cmp path) old new (Some entry) → Keeps old.entries new.entries path entry
keeps-updated old new path entry u = record { here = u.1; others = λ other apart. u.2 other (apart-at path other apart) }

-- what is found is what was put there
found-there : (a b : StampedDigest) (o : Option StampedDigest) → o ≡ Some a → o ≡ Some b → a ≡ b
found-there a b o p q = cc

-- the digests belong to their paths and stamps, where the new one does
pub tied-kept : (content : List ℕ → Stamp → List ℕ) (old new : List (List ℕ × StampedDigest)) (path : List ℕ) (entry : StampedDigest)
    → AreTied content old → IsTied content path entry → Keeps old new path entry → AreTied content new
tied-kept content old new path entry tied this kept other found at = by (bytes_eq other path) refl
  where
    by : (b : Bool) → bytes_eq other path ≡ b → IsTied content other found
    by true e =
        let same : other ≡ path = (bytes_eq-Decides other path).0 e in
        let is : found ≡ entry = found-there found entry (kept_at new other) at (ap (kept_at new) same ∙ kept.here) in
        rw (same, is) this
    by false e = tied other found (sym (kept.others other (λ same. absurd (cc (sym ((bytes_eq-Decides other path).1 same) ∙ e)))) ∙ at)

-- one more entry, where there was room for it
pub still-within : (o : Option StampedDigest) (before now limit : ℕ) → now ≡ before + (if is_some o then 0 else 1) → before ≢ limit → before ≤ limit → now ≤ limit
still-within None before now limit e apart h = omega (arith, e, apart, h)
still-within (Some old) before now limit e apart h = omega (arith, e, h)

stamps-equal : (a b : Stamp) → a.size ≡ b.size → a.mark ≡ b.mark → a ≡ b
stamps-equal a b size mark = ap (λ n. record { size = n; mark = a.mark }) size ∙ ap (λ n. record { size = b.size; mark = n }) mark

-- stamps that the code finds equal
pub same-stamp : (a b : Stamp) (differ : Bool) → differ ≡ not ((a.size == b.size) && (a.mark == b.mark)) → differ ≡ false → a ≡ b
same-stamp a b differ e f = stamps-equal a b (grind (arith, nat_tests)) (grind (arith, nat_tests))
