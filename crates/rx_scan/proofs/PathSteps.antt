-- Lists of paths: filters one path on, and what is in joined lists.
use Rattle.std.proofs.Common.{◌≡◌, ◌≢◌, ℕ, ◌+◌, ◌<◌, ◌⊎◌, inl, inr, Bool, true, false, cond, not, ◌==◌, List, [], ◌∷◌, ◌++◌, filter, length, get_or, map, take, refl, sym, ap, subst, ◌∙◌, arith, true≢false}
use Rattle.std.specs.Prelude.{Contains, ◌↔◌}
use Rattle.std.proofs.lemmas.Bool.Decides.{nat_tests}
use Rattle.std.proofs.lemmas.List.Elements.{Contains-append_cases, Contains-append_left, Contains-append_right}
use Rattle.rx_base.specs.SortedPaths.{HasSameMembers}
use Rattle.rx_base.proofs.Members.{Among-from_contains, Contains-from_among}
use Rattle.rx_world.proofs.Among.{among-filter, among-from_filter}
use Rattle.rx_scan.proofs.InputSteps.{kept, taken}

-- the paths of paths are these
pub map_same : (paths : List (List ℕ)) → map (λ path. path) paths ≡ paths
map_same [] = refl
map_same (path ∷ paths) = ap (λ rest. path ∷ rest) (map_same paths)

-- one path more of a filtered list
pub filter-more : (p : List ℕ → Bool) (xs : List (List ℕ)) (i : ℕ) (x : List ℕ) (b : Bool) (old new : List (List ℕ)) → i < length xs → x ≡ get_or xs i x → p x ≡ b → old ≡ filter p (take i xs) → new ≡ old ++ cond b (x ∷ []) [] → new ≡ filter p (take (i + 1) xs)
filter-more p xs i x b old new h e t before after = after ∙ kept p (take i xs) x b old before t ∙ ap (filter p) (sym (taken xs i x h e))

root-not : (path : List ℕ) → not (length path == 0) ≡ true → path ≢ []
root-not [] t e = absurd (true≢false (sym t))
root-not (x ∷ xs) t e = absurd (cc e)

not-root : (path : List ℕ) → path ≢ [] → not (length path == 0) ≡ true
not-root [] f = absurd (f refl)
not-root (x ∷ xs) f =
    let some : (length (x ∷ xs) == 0) ≡ false = grind (arith, nat_tests) in
    ap not some

pub in-filter : (p : List ℕ → Bool) (xs ys : List (List ℕ)) → ys ≡ filter p xs → (path : List ℕ) → Contains ys path ↔ ((p path ≡ true) × Contains xs path)
in-filter p xs ys e path = (
  λ c. let a = among-from_filter p path xs (Among-from_contains path (filter p xs) (subst (λ zs. Contains zs path) e c)) in (a.1, Contains-from_among path xs a.0),
  λ d. subst (λ zs. Contains zs path) (sym e) (Contains-from_among path (filter p xs) (among-filter p path xs (Among-from_contains path xs d.1) d.0)),
)

pub in-below : (paths below : List (List ℕ)) → below ≡ filter (λ path. not (length path == 0)) paths → (path : List ℕ) → Contains below path ↔ ((path ≢ []) × Contains paths path)
in-below paths below e path =
    let h = in-filter (λ p. not (length p == 0)) paths below e path in
    (λ c. let d = h.0 c in (root-not path d.0, d.1), λ d. h.1 (not-root path d.0, d.1))

pub in-both : (xs ys all : List (List ℕ)) → all ≡ xs ++ ys → (path : List ℕ) → Contains all path ↔ (Contains xs path ⊎ Contains ys path)
in-both xs ys all e path = (
  λ c. Contains-append_cases xs ys path (subst (λ zs. Contains zs path) e c),
  λ d. subst (λ zs. Contains zs path) (sym e) (elim d [ inl l ↦ Contains-append_left xs ys path l | inr r ↦ Contains-append_right xs ys path r ]),
)

pub in-joined : (xs ys all sorted : List (List ℕ)) → all ≡ xs ++ ys → HasSameMembers all sorted → (path : List ℕ) → Contains sorted path ↔ (Contains xs path ⊎ Contains ys path)
in-joined xs ys all sorted e same path =
    let h = in-both xs ys all e path in
    (λ c. h.0 ((same path).1 c), λ d. (same path).0 (h.1 d))

pub in-joined_below : (xs ys all below sorted : List (List ℕ)) → all ≡ xs ++ ys → below ≡ filter (λ path. not (length path == 0)) all → HasSameMembers below sorted → (path : List ℕ) → Contains sorted path ↔ ((path ≢ []) × (Contains xs path ⊎ Contains ys path))
in-joined_below xs ys all below sorted e b same path =
    let h = in-both xs ys all e path in
    let k = in-below all below b path in (
      λ c. let d = k.0 ((same path).1 c) in (d.0, h.0 d.1),
      λ d. (same path).0 (k.1 (d.0, h.1 d.1)),
    )

only-one : (x y : List ℕ) → Contains (x ∷ []) y → y ≡ x
only-one x y c = elim (Among-from_contains y (x ∷ []) c) [ inl e ↦ sym e | inr a ↦ absurd a ]

pub in-with : (xs all below sorted : List (List ℕ)) (one copy : List ℕ) → copy ≡ one → all ≡ xs ++ copy ∷ [] → below ≡ filter (λ path. not (length path == 0)) all → HasSameMembers below sorted
    → (path : List ℕ) → Contains sorted path ↔ ((path ≢ []) × (Contains xs path ⊎ (path ≡ one)))
in-with xs all below sorted one copy is e b same path =
    let h = in-joined_below xs (copy ∷ []) all below sorted e b same path in (
      λ c. let d = h.0 c in (d.0, elim d.1 [ inl l ↦ inl l | inr r ↦ inr (only-one copy path r ∙ is) ]),
      λ d. h.1 (d.0, elim d.1 [ inl l ↦ inl l | inr r ↦ inr (0, omega arith, is ∙ sym r) ]),
    )
