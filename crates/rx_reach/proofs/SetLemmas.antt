-- Sets of paths and tables of files, as lists.
use Rattle.std.proofs.Common.{◌≡◌, ◌↔◌, ℕ, ◌+◌, ◌<◌, ◌≤◌, ◌⊎◌, inl, inr, Bool, true, false, cond, List, [], ◌∷◌, ◌++◌, length, get_or, map, take, Option, Some, None, refl, sym, ap, ◌∙◌, subst}
use Rattle.std.specs.Prelude.{All, Contains, Err, IfOk, IsSome, IsTrue, Ok, Result, if◌then◌else◌, is_some}
use Rattle.std.proofs.lemmas.List.{length-map, take_more}
use Rattle.rx_base.proofs.PathAbove.{texts-all}
use Rattle.rx_base.specs.SortedPaths.{AreSorted}
use Rattle.std.specs.BTreeMap as tree
use Rattle.std.specs.BTreeMap.{BTreeMap}
use Rattle.std.specs.BTreeSet as sorted
use Rattle.std.specs.BTreeSet.{BTreeSet}
use Rattle.std.specs.Cmp.Lexicographic.{nat_list_cmp_total, slice_cmp}
use Rattle.std.specs.Ordering.{nat_cmp}
use Rattle.std.specs.Str.{bytes_eq}
use Rattle.std.proofs.lemmas.List.Elements.{All-contains_itself, All-weaker, Contains-append_cases, Contains-append_left, Contains-append_right}
use Rattle.std.proofs.lemmas.Map.Lookups.{exact_bytes}
use Rattle.std.proofs.lemmas.Map.Text.{is_eq-slice_cmp}
use Rattle.std.proofs.lemmas.Map.Views.{btree_map_contains_key_iff, btree_map_get_iff, btree_set_contains_iff}
use Rattle.std.proofs.lemmas.Slice.Eq.{bytes_eq-Decides}
use Rattle.rx_world.specs.declared.input_files.InputFile.{InputFile}
use Rattle.rx_reach.specs.declared.file_tables.ReadFile.{ReadFile}
use Rattle.rx_reach.specs.FileTables.{file_of, paths_of}
use Rattle.rx_reach.specs.PathSets.{Adds}
use Rattle.rx_base.proofs.Members.{Contains-head, Contains-one, not_in_nothing, Contains-map, Contains-from_map}
use Rattle.rx_base.proofs.Conditions.{cond-cases}

-- ---- sets

pub set-contains : (set : BTreeSet (List ℕ)) (path : List ℕ) (r : Bool) → r ≡ sorted.contains (slice_cmp nat_cmp) set path → IsTrue r ↔ Contains set.keys path
set-contains set path r e =
    let iff = btree_set_contains_iff nat_list_cmp_total exact_bytes set path in
    (λ t. iff.0 (sym e ∙ t), λ h. e ∙ iff.1 h)

either : (b old : Bool) → (b ≡ true) ⊎ (old ≡ true) → cond b true old ≡ true
either true old h = refl
either false old (inl e) = absurd (cc e)
either false old (inr e) = e

pub set-adds : (old new : BTreeSet (List ℕ)) (path : List ℕ) → sorted.Updates (slice_cmp nat_cmp) old new path true → Adds old.keys new.keys path
set-adds old new path u other =
    let here = is_eq-slice_cmp path other in
    let now = btree_set_contains_iff nat_list_cmp_total exact_bytes new other in
    let was = btree_set_contains_iff nat_list_cmp_total exact_bytes old other in
    let step : sorted.contains (slice_cmp nat_cmp) new other ≡ cond (bytes_eq path other) true (sorted.contains (slice_cmp nat_cmp) old other) = u.0 other ∙ ap (λ b. cond b true (sorted.contains (slice_cmp nat_cmp) old other)) here in (
      λ h. elim (cond-cases (bytes_eq path other) true (sorted.contains (slice_cmp nat_cmp) old other) true (sym step ∙ now.1 h)) [
        | inl e ↦ inl (sym ((bytes_eq-Decides path other).0 e.0))
        | inr e ↦ inr (was.0 e.1)
      ],
      λ h. now.0 (step ∙ either (bytes_eq path other) (sorted.contains (slice_cmp nat_cmp) old other) (told h)),
    )
  where
    told : (other ≡ path) ⊎ Contains old.keys other → (bytes_eq path other ≡ true) ⊎ (sorted.contains (slice_cmp nat_cmp) old other ≡ true)
    told (inl e) = inl ((bytes_eq-Decides path other).1 (sym e))
    told (inr h) = inr ((btree_set_contains_iff nat_list_cmp_total exact_bytes old other).1 h)

-- the path was there
pub adds-known : (set : List (List ℕ)) (path : List ℕ) → Contains set path → Adds set set path
adds-known set path h other = (λ k. inr k, λ k. elim k [ inl e ↦ subst (Contains set) (sym e) h | inr a ↦ a ])

-- ---- members

pub all-from : {A : Type 0} (P : A → Type 0) (xs : List A) → ((x : A) → Contains xs x → P x) → All P xs
all-from P xs h = All-weaker (Contains xs) P h xs (All-contains_itself xs)

-- ---- tables

abbrev Entry : Type 0
Entry = List ℕ × ReadFile

pub table-contains : (table : BTreeMap (List ℕ) ReadFile) → tree.IsOrdered (slice_cmp nat_cmp) table → (f : InputFile) → Contains (map file_of table.entries) f ↔ (tree.get (slice_cmp nat_cmp) table f.path ≡ Some (record { digest = f.digest; stamp = f.stamp; executable = f.executable }))
table-contains table s f =
    let iff = btree_map_get_iff nat_list_cmp_total exact_bytes table s f.path (record { digest = f.digest; stamp = f.stamp; executable = f.executable }) in (
      λ h. let there = Contains-from_map file_of table.entries f h in iff.1 (subst (Contains table.entries) (ap (λ (x : InputFile). (x.path, record { digest = x.digest; stamp = x.stamp; executable = x.executable })) there.2) there.1),
      λ e. Contains-map file_of table.entries (f.path, record { digest = f.digest; stamp = f.stamp; executable = f.executable }) (iff.0 e),
    )

keys-paths : (es : List Entry) → paths_of (map file_of es) ≡ map (λ e. e.0) es
keys-paths [] = refl
keys-paths (e ∷ es) = ap (λ ps. e.0 ∷ ps) (keys-paths es)

some-true : (o : Option ReadFile) → is_some o ≡ true → IsSome o
some-true (Some x) e = refl
some-true None e = absurd (cc e)

true-some : (o : Option ReadFile) → IsSome o → is_some o ≡ true
true-some (Some x) h = refl
true-some None h = absurd (cc h)

pub table-has : (table : BTreeMap (List ℕ) ReadFile) (path : List ℕ) (r : Bool) → r ≡ is_some (tree.get (slice_cmp nat_cmp) table path) → IsTrue r ↔ Contains (paths_of (map file_of table.entries)) path
table-has table path r e =
    let iff = btree_map_contains_key_iff nat_list_cmp_total exact_bytes table path in (
      λ t. subst (λ ps. Contains ps path) (sym (keys-paths table.entries)) (iff.0 (some-true _ (sym e ∙ t))),
      λ h. e ∙ true-some _ (iff.1 (subst (λ ps. Contains ps path) (keys-paths table.entries) h)),
    )

found-is : (a b : ReadFile) → Some a ≡ Some b → a ≡ b
found-is a b e = cc e

pub table-adds : (old new : BTreeMap (List ℕ) ReadFile) (path : List ℕ) (file : ReadFile) → tree.IsOrdered (slice_cmp nat_cmp) old → tree.IsOrdered (slice_cmp nat_cmp) new
    → tree.UpdatesBy (slice_cmp nat_cmp) (slice_cmp nat_cmp path) old new (Some file) → (Contains (paths_of (map file_of old.entries)) path → ⊥)
    → (other : InputFile) → Contains (map file_of new.entries) other ↔ ((other ≡ file_of (path, file)) ⊎ Contains (map file_of old.entries) other)
table-adds old new path file was is u absent other =
    let now = table-contains new is other in
    let before = table-contains old was other in
    let step : tree.get (slice_cmp nat_cmp) new other.path ≡ cond (bytes_eq path other.path) (Some file) (tree.get (slice_cmp nat_cmp) old other.path) = u.0 other.path ∙ ap (λ b. cond b (Some file) (tree.get (slice_cmp nat_cmp) old other.path)) (is_eq-slice_cmp path other.path) in (
      λ h. to (bytes_eq path other.path) refl (sym step ∙ now.0 h),
      λ h. elim h [
        | inl e ↦ now.1 (subst (λ (f : InputFile). tree.get (slice_cmp nat_cmp) new f.path ≡ Some (record { digest = f.digest; stamp = f.stamp; executable = f.executable })) (sym e) u.1)
        | inr k ↦ now.1 (step ∙ from k (bytes_eq path other.path) refl (before.0 k))
      ],
    )
  where
    to : (b : Bool) → b ≡ bytes_eq path other.path → cond b (Some file) (tree.get (slice_cmp nat_cmp) old other.path) ≡ Some (record { digest = other.digest; stamp = other.stamp; executable = other.executable })
        → (other ≡ file_of (path, file)) ⊎ Contains (map file_of old.entries) other
    to true q e =
        let here : path ≡ other.path = (bytes_eq-Decides path other.path).0 (sym q) in
        let rest : file ≡ record { digest = other.digest; stamp = other.stamp; executable = other.executable } = found-is file (record { digest = other.digest; stamp = other.stamp; executable = other.executable }) e in
        inl (sym (ap (λ p. file_of (p, file)) here ∙ ap (λ f. file_of (other.path, f)) rest))
    to false q e = inr ((table-contains old was other).1 e)

    from : Contains (map file_of old.entries) other → (b : Bool) → b ≡ bytes_eq path other.path → tree.get (slice_cmp nat_cmp) old other.path ≡ Some (record { digest = other.digest; stamp = other.stamp; executable = other.executable })
        → cond b (Some file) (tree.get (slice_cmp nat_cmp) old other.path) ≡ Some (record { digest = other.digest; stamp = other.stamp; executable = other.executable })
    from k false q e = e
    from k true q e =
        let here : path ≡ other.path = (bytes_eq-Decides path other.path).0 (sym q) in
        absurd (absent (subst (Contains (paths_of (map file_of old.entries))) (sym here) (Contains-map (λ (f : InputFile). f.path) (map file_of old.entries) other k)))

none-there : (o : Option ReadFile) → (IsSome o → ⊥) → is_some o ≡ false
none-there None h = refl
none-there (Some x) h = absurd (h refl)

pub table-grows : (old new : BTreeMap (List ℕ) ReadFile) (path : List ℕ) (was : Option ReadFile) → was ≡ tree.get (slice_cmp nat_cmp) old path
    → length new.entries ≡ length old.entries + (if is_some was then 0 else 1) → (Contains (paths_of (map file_of old.entries)) path → ⊥)
    → length (map file_of new.entries) ≡ length (map file_of old.entries) + 1
table-grows old new path was e len absent =
    let iff = btree_map_contains_key_iff nat_list_cmp_total exact_bytes old path in
    let gone : is_some was ≡ false = ap is_some e ∙ none-there _ (λ s. absent (subst (λ ps. Contains ps path) (sym (keys-paths old.entries)) (iff.0 s))) in
    let more : length new.entries ≡ length old.entries + 1 = len ∙ ap (λ b. length old.entries + (if b then 0 else 1)) gone in
    length-map new.entries file_of ∙ more ∙ ap (λ n. n + 1) (sym (length-map old.entries file_of))

pub table-sorted : {E : Type 0} (es : List Entry) (result : Result (List InputFile) E) → AreSorted (map (λ e. e.0) es) → IfOk result (λ items. items ≡ map file_of es) → IfOk result (λ items. AreSorted (paths_of items))
table-sorted es (Ok items) s h = subst AreSorted (sym (ap paths_of h ∙ keys-paths es)) s
table-sorted es (Err e) s h = tt

-- ---- one more path

pub adds-next : (start old new all : List (List ℕ)) (i : ℕ) (path : List ℕ) → i < length all → path ≡ get_or all i path
    → ((p : List ℕ) → Contains old p ↔ (Contains start p ⊎ Contains (take i all) p)) → Adds old new path
    → (p : List ℕ) → Contains new p ↔ (Contains start p ⊎ Contains (take (i + 1) all) p)
adds-next start old new all i path lt e inv adds p =
    let more : take (i + 1) all ≡ take i all ++ path ∷ [] = take_more all i path lt ∙ ap (λ q. take i all ++ q ∷ []) (sym e) in
    rw more (λ h. to ((adds p).0 h), λ h. (adds p).1 (from h))
  where
    to : (p ≡ path) ⊎ Contains old p → Contains start p ⊎ Contains (take i all ++ path ∷ []) p
    to (inl q) = inr (Contains-append_right (take i all) (path ∷ []) p (subst (Contains (path ∷ [])) (sym q) (Contains-head path [])))
    to (inr h) = elim ((inv p).0 h) [ inl a ↦ inl a | inr a ↦ inr (Contains-append_left (take i all) (path ∷ []) p a) ]

    from : Contains start p ⊎ Contains (take i all ++ path ∷ []) p → (p ≡ path) ⊎ Contains old p
    from (inl h) = inr ((inv p).1 (inl h))
    from (inr h) = elim (Contains-append_cases (take i all) (path ∷ []) p h) [ inl a ↦ inr ((inv p).1 (inr a)) | inr a ↦ inl (sym (Contains-one path p a)) ]

pub adds-end : (start set all : List (List ℕ)) (i : ℕ) → length all ≤ i → ((p : List ℕ) → Contains set p ↔ (Contains start p ⊎ Contains (take i all) p))
    → (p : List ℕ) → Contains set p ↔ (Contains start p ⊎ Contains all p)
adds-end start set all i le inv p = subst (λ xs. Contains set p ↔ (Contains start p ⊎ Contains xs p)) (texts-all all i le) (inv p)

pub adds-start : (set all : List (List ℕ)) (p : List ℕ) → Contains set p ↔ (Contains set p ⊎ Contains (take 0 all) p)
adds-start set all p = (λ h. inl h, λ h. elim h [ inl a ↦ a | inr a ↦ absurd (not_in_nothing p a) ])
