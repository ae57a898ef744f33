-- Names in order, as borrowed texts and as lists.
use Rattle.std.proofs.Common.{◌≡◌, ◌∙◌, ℕ, Bool, List, [], ◌∷◌, ◌++◌, Option, Some, None, true, false, not, refl, ap, sym}
use Rattle.std.specs.Prelude.{is_some, is_none, option_map}
use Rattle.std.specs.Borrow.{Bor}
use Rattle.std.specs.declared.cmp.Ordering.{Ordering}
use Rattle.std.specs.declared.cmp.Ordering.TheVariants.{Less, Equal, Greater}
use Rattle.std.specs.Ordering.{bool_cmp, is_lt, nat_cmp, ordering_reverse, ordering_then}
use Rattle.std.proofs.lemmas.Cmp.{lists_total, nat_list_cmp_total, tied_itself, tied_back}
use Rattle.std.specs.Cmp.Lexicographic.{slice_cmp}
use Rattle.std.specs.FinMap.{nat_cmp-IsAntisymmetric, slice_cmp-IsAntisymmetric}
use Rattle.rx_base.specs.Texts.{texts}
use Rattle.rx_world.specs.declared.input_files.InputFile.{InputFile}
use Rattle.rx_base.proofs.Orderings.{Equal-from_neither, then-Equal}
use Rattle.rx_tree.specs.Entries.{Entry, content_of, names_of}
use Rattle.rx_tree.specs.Places.{by_names, by_place, by_place_total}

-- borrowed texts compare as the texts do
pub by_names-texts : (xs ys : List (Bor (List ℕ))) → slice_cmp (λ x y. slice_cmp nat_cmp x.now y.now) xs ys ≡ by_names (texts xs) (texts ys)
by_names-texts [] [] = refl
by_names-texts [] (y ∷ ys) = refl
by_names-texts (x ∷ xs) [] = refl
by_names-texts (x ∷ xs) (y ∷ ys) = ap (λ (o : Ordering). ordering_then (slice_cmp nat_cmp x.now y.now) o) (by_names-texts xs ys)

-- no file is told where none is borrowed
pub no_content : (file : Option (Bor InputFile)) (none : Bool) → is_some file ≡ not none → is_none (option_map (λ f. content_of f.now) file) ≡ none
no_content None true e = refl
no_content None false e = absurd (cc e)
no_content (Some file) true e = absurd (cc e)
no_content (Some file) false e = refl

-- ---- names that go on from others

pub is_equal : (x y : List ℕ) → slice_cmp nat_cmp x y ≡ Equal → x ≡ y
is_equal = slice_cmp-IsAntisymmetric nat_cmp-IsAntisymmetric

-- what goes on comes later
pub by_names-on : (names : List (List ℕ)) (n : List ℕ) (ns : List (List ℕ)) → by_names names (names ++ n ∷ ns) ≡ Less
by_names-on [] n ns = refl
by_names-on (x ∷ xs) n ns = rw (tied_itself nat_list_cmp_total x) (by_names-on xs n ns)

-- what stands between names and others that go on from them goes on from them too
pub between : (above x below : List (List ℕ)) → is_lt (by_names x above) ≡ false → is_lt (by_names (above ++ below) x) ≡ false → (more : List (List ℕ)) × (x ≡ above ++ more)
between [] x below low high = (x, refl)
between (n ∷ above) [] below low high = absurd (cc low)
between (n ∷ above) (m ∷ x) below low high =
    elim (slice_cmp nat_cmp m n) as (λ r. slice_cmp nat_cmp m n ≡ r → (more : List (List ℕ)) × (m ∷ x ≡ (n ∷ above) ++ more)) [
      | Less ↦ λ e. let h = rw e at low in absurd (cc h)
      | Greater ↦ λ e.
          let back : slice_cmp nat_cmp n m ≡ Less = nat_list_cmp_total.antisymm n m ∙ ap ordering_reverse e in
          let h = rw back at high in
          absurd (cc h)
      | Equal ↦ λ e.
          let back : slice_cmp nat_cmp n m ≡ Equal = tied_back nat_list_cmp_total m n e in
          let rest = between above x below (rw e at low) (rw back at high) in
          (rest.0, ap (λ (z : List ℕ). z ∷ x) (is_equal m n e) ∙ ap (λ (zs : List (List ℕ)). n ∷ zs) rest.1)
    ] refl

pub names_equal : (names : List (List ℕ)) → by_names names names ≡ Equal
names_equal = tied_itself (lists_total nat_list_cmp_total)

-- ---- entries

same_bool : (a b : Bool) → bool_cmp a b ≡ Equal → a ≡ b
same_bool false false e = refl
same_bool false true e = absurd (cc e)
same_bool true false e = absurd (cc e)
same_bool true true e = refl

-- entries of which neither comes first have one path, and are both files or none
pub not_less_both : (x y : Entry) → is_lt (by_place y x) ≡ false → is_lt (by_place x y) ≡ false → (names_of x.path ≡ names_of y.path) × (is_none x.file ≡ is_none y.file)
not_less_both x y low high =
    let equal = Equal-from_neither (by_place x y) high (ap is_lt (sym (by_place_total.antisymm y x)) ∙ low) in
    let parts = then-Equal (by_names (names_of x.path) (names_of y.path)) (bool_cmp (is_none x.file) (is_none y.file)) equal in
    (slice_cmp-IsAntisymmetric is_equal (names_of x.path) (names_of y.path) parts.0, same_bool (is_none x.file) (is_none y.file) parts.1)
