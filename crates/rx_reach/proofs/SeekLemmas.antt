-- What tries add to what was found, one after the other.
use Rattle.std.proofs.Common.{◌≡◌, ℕ, ◌+◌, ◌<◌, ◌≤◌, ◌⊎◌, inl, inr, List, [], ◌∷◌, ◌++◌, length, get_or, map, take, refl, sym, ap, ◌∙◌, subst, append_assoc, append-nil}
use Rattle.std.specs.Prelude.{Contains, flat_map}
use Rattle.std.proofs.lemmas.List.{drop_all, map_more, map-append, take_more, take-append-drop}
use Rattle.std.proofs.lemmas.List.Elements.{Contains-append_cases, Contains-append_left, Contains-append_right}
use Rattle.rx_reach.specs.declared.tries.Candidate.TheVariants as candidate
use Rattle.rx_reach.specs.declared.tries.Tried.{Tried}
use Rattle.rx_reach.specs.declared.progress.Progress.{Progress}
use Rattle.rx_reach.specs.Candidates.{Finds, IsOutside, IsTried, Leaves, MeetsOther, Try}
use Rattle.rx_reach.specs.Progress.{IsHardBy, IsKnown, IsLeftBy, Seeks, Stays, Takes}
use Rattle.rx_reach.specs.Reach.{IsFound}
use Rattle.rx_reach.specs.Scenes.{Scene}
use Rattle.rx_reach.specs.Searches.{tries_under}
use Rattle.rx_base.proofs.PathAbove.{texts-all}
use Rattle.rx_base.proofs.Members.{Contains-head, not_in_nothing, Contains-one}

-- some try of a list has it
abbrev Some-of : (Try → Type 0) → List Try → Type 0
Some-of P tries = (t : Try) × Contains tries t × P t

some-one : (P : Try → Type 0) (t : Try) → Some-of P (t ∷ []) → P t
some-one P t h = subst P (sym (Contains-one t h.0 h.1)) h.2

one-some : (P : Try → Type 0) (t : Try) → P t → Some-of P (t ∷ [])
one-some P t p = (t, Contains-head t [], p)

some-cases : (P : Try → Type 0) (xs ys : List Try) → Some-of P (xs ++ ys) → Some-of P xs ⊎ Some-of P ys
some-cases P xs ys h = elim (Contains-append_cases xs ys h.0 h.1) [ inl a ↦ inl (h.0, a, h.2) | inr a ↦ inr (h.0, a, h.2) ]

some-left : (P : Try → Type 0) (xs ys : List Try) → Some-of P xs → Some-of P (xs ++ ys)
some-left P xs ys h = (h.0, Contains-append_left xs ys h.0 h.1, h.2)

some-right : (P : Try → Type 0) (xs ys : List Try) → Some-of P ys → Some-of P (xs ++ ys)
some-right P xs ys h = (h.0, Contains-append_right xs ys h.0 h.1, h.2)

-- ---- the three

pub found-cases : (scene : Scene) (xs ys : List Try) (path : List ℕ) → IsFound scene (xs ++ ys) path → IsFound scene xs path ⊎ IsFound scene ys path
found-cases scene xs ys path h = some-cases (λ t. Finds scene t path) xs ys h

pub left-cases : (scene : Scene) (xs ys : List Try) (path : List ℕ) → IsLeftBy scene (xs ++ ys) path → IsLeftBy scene xs path ⊎ IsLeftBy scene ys path
left-cases scene xs ys path h = some-cases (λ t. Leaves scene t path) xs ys h

pub hard-cases : (scene : Scene) (blamed : List ℕ) (xs ys : List Try) (path : List ℕ) → IsHardBy scene blamed (xs ++ ys) path → IsHardBy scene blamed xs path ⊎ IsHardBy scene blamed ys path
hard-cases scene blamed xs ys path (inl h) = elim (some-cases IsOutside xs ys h.1) [ inl a ↦ inl (inl (h.0, a)) | inr a ↦ inr (inl (h.0, a)) ]
hard-cases scene blamed xs ys path (inr h) = elim (some-cases (λ t. MeetsOther scene t path) xs ys h) [ inl a ↦ inl (inr a) | inr a ↦ inr (inr a) ]

hard-left : (scene : Scene) (blamed : List ℕ) (xs ys : List Try) (path : List ℕ) → IsHardBy scene blamed xs path → IsHardBy scene blamed (xs ++ ys) path
hard-left scene blamed xs ys path (inl h) = inl (h.0, some-left IsOutside xs ys h.1)
hard-left scene blamed xs ys path (inr h) = inr (some-left (λ t. MeetsOther scene t path) xs ys h)

hard-right : (scene : Scene) (blamed : List ℕ) (xs ys : List Try) (path : List ℕ) → IsHardBy scene blamed ys path → IsHardBy scene blamed (xs ++ ys) path
hard-right scene blamed xs ys path (inl h) = inl (h.0, some-right IsOutside xs ys h.1)
hard-right scene blamed xs ys path (inr h) = inr (some-right (λ t. MeetsOther scene t path) xs ys h)

-- ---- no try, one, and more

pub stays-same : (p : Progress) → Stays p p
stays-same p = record { read_is = refl; apart = λ a. a }

pub stays-join : (p q r : Progress) → Stays p q → Stays q r → Stays p r
stays-join p q r a b = record { read_is = b.read_is ∙ a.read_is; apart = λ x. b.apart (a.apart x) }

pub seeks-none : (scene : Scene) (blamed : List ℕ) (p : Progress) → Seeks scene blamed [] p p
seeks-none scene blamed p = record {
  known = λ path. (λ h. inl h, λ h. elim h [ inl a ↦ a | inr a ↦ absurd (not_in_nothing a.0 a.1) ]);
  hard = λ path. (λ h. inl h, λ h. elim h [ inl a ↦ a | inr a ↦ absurd (nobody path a) ]);
  left = λ path. (λ h. inl h, λ h. elim h [ inl a ↦ a | inr a ↦ absurd (not_in_nothing a.0 a.1) ]);
}
  where
    nobody : (path : List ℕ) → IsHardBy scene blamed [] path → ⊥
    nobody path (inl h) = not_in_nothing h.1.0 h.1.1
    nobody path (inr h) = not_in_nothing h.0 h.1

pub seeks-one : (scene : Scene) (blamed : List ℕ) (t : Try) (tried : Tried) (p q : Progress) → IsTried scene t tried → Takes blamed tried p q → Seeks scene blamed (t ∷ []) p q
seeks-one scene blamed t tried p q is took = record {
  known = λ path. (
    λ h. elim ((took.known path).0 h) [ inl a ↦ inl a | inr a ↦ inr (one-some (λ x. Finds scene x path) t ((is.finds path).1 a)) ],
    λ h. (took.known path).1 (elim h [ inl a ↦ inl a | inr a ↦ inr ((is.finds path).0 (some-one (λ x. Finds scene x path) t a)) ]),
  );
  hard = λ path. (λ h. hard-to path ((took.hard path).0 h), λ h. (took.hard path).1 (hard-from path h));
  left = λ path. (
    λ h. elim ((took.left path).0 h) [ inl a ↦ inl a | inr a ↦ inr (one-some (λ x. Leaves scene x path) t ((is.leaves path).1 a)) ],
    λ h. (took.left path).1 (elim h [ inl a ↦ inl a | inr a ↦ inr ((is.leaves path).0 (some-one (λ x. Leaves scene x path) t a)) ]),
  );
}
  where
    hard-to : (path : List ℕ) → Contains p.hard path ⊎ (((path ≡ blamed) × (tried.candidate ≡ candidate.Outside)) ⊎ (tried.candidate ≡ candidate.Other path)) → Contains p.hard path ⊎ IsHardBy scene blamed (t ∷ []) path
    hard-to path (inl h) = inl h
    hard-to path (inr (inl h)) = inr (inl (h.0, one-some IsOutside t (is.outside.1 h.1)))
    hard-to path (inr (inr h)) = inr (inr (one-some (λ x. MeetsOther scene x path) t ((is.meets path).1 h)))

    hard-from : (path : List ℕ) → Contains p.hard path ⊎ IsHardBy scene blamed (t ∷ []) path → Contains p.hard path ⊎ (((path ≡ blamed) × (tried.candidate ≡ candidate.Outside)) ⊎ (tried.candidate ≡ candidate.Other path))
    hard-from path (inl h) = inl h
    hard-from path (inr (inl h)) = inr (inl (h.0, is.outside.0 (some-one IsOutside t h.1)))
    hard-from path (inr (inr h)) = inr (inr ((is.meets path).0 (some-one (λ x. MeetsOther scene x path) t h)))

pub seeks-join : (scene : Scene) (blamed : List ℕ) (xs ys : List Try) (p q r : Progress) → Seeks scene blamed xs p q → Seeks scene blamed ys q r → Seeks scene blamed (xs ++ ys) p r
seeks-join scene blamed xs ys p q r a b = record {
  known = λ path. (λ h. known-to path ((b.known path).0 h), λ h. (b.known path).1 (known-from path h));
  hard = λ path. (λ h. hard-to path ((b.hard path).0 h), λ h. (b.hard path).1 (hard-from path h));
  left = λ path. (λ h. left-to path ((b.left path).0 h), λ h. (b.left path).1 (left-from path h));
}
  where
    known-to : (path : List ℕ) → IsKnown q path ⊎ IsFound scene ys path → IsKnown p path ⊎ IsFound scene (xs ++ ys) path
    known-to path (inl h) = elim ((a.known path).0 h) [ inl k ↦ inl k | inr k ↦ inr (some-left (λ t. Finds scene t path) xs ys k) ]
    known-to path (inr h) = inr (some-right (λ t. Finds scene t path) xs ys h)

    known-from : (path : List ℕ) → IsKnown p path ⊎ IsFound scene (xs ++ ys) path → IsKnown q path ⊎ IsFound scene ys path
    known-from path (inl h) = inl ((a.known path).1 (inl h))
    known-from path (inr h) = elim (found-cases scene xs ys path h) [ inl k ↦ inl ((a.known path).1 (inr k)) | inr k ↦ inr k ]

    hard-to : (path : List ℕ) → Contains q.hard path ⊎ IsHardBy scene blamed ys path → Contains p.hard path ⊎ IsHardBy scene blamed (xs ++ ys) path
    hard-to path (inl h) = elim ((a.hard path).0 h) [ inl k ↦ inl k | inr k ↦ inr (hard-left scene blamed xs ys path k) ]
    hard-to path (inr h) = inr (hard-right scene blamed xs ys path h)

    hard-from : (path : List ℕ) → Contains p.hard path ⊎ IsHardBy scene blamed (xs ++ ys) path → Contains q.hard path ⊎ IsHardBy scene blamed ys path
    hard-from path (inl h) = inl ((a.hard path).1 (inl h))
    hard-from path (inr h) = elim (hard-cases scene blamed xs ys path h) [ inl k ↦ inl ((a.hard path).1 (inr k)) | inr k ↦ inr k ]

    left-to : (path : List ℕ) → Contains q.left path ⊎ IsLeftBy scene ys path → Contains p.left path ⊎ IsLeftBy scene (xs ++ ys) path
    left-to path (inl h) = elim ((a.left path).0 h) [ inl k ↦ inl k | inr k ↦ inr (some-left (λ t. Leaves scene t path) xs ys k) ]
    left-to path (inr h) = inr (some-right (λ t. Leaves scene t path) xs ys h)

    left-from : (path : List ℕ) → Contains p.left path ⊎ IsLeftBy scene (xs ++ ys) path → Contains q.left path ⊎ IsLeftBy scene ys path
    left-from path (inl h) = inl ((a.left path).1 (inl h))
    left-from path (inr h) = elim (left-cases scene xs ys path h) [ inl k ↦ inl ((a.left path).1 (inr k)) | inr k ↦ inr k ]

-- ---- directories, includes and forced names in turn

abbrev Names : Type 0
Names = List (List ℕ)

pub seeks-as : (scene : Scene) (blamed : List ℕ) (xs ys : List Try) (p q : Progress) → xs ≡ ys → Seeks scene blamed xs p q → Seeks scene blamed ys p q
seeks-as scene blamed xs ys p q e h = subst (λ ts. Seeks scene blamed ts p q) e h

pub under-next : (scene : Scene) (blamed : List ℕ) (dirs : Names) (name : List ℕ) (i : ℕ) (dir : List ℕ) (p q r : Progress) → i < length dirs → dir ≡ get_or dirs i dir
    → Seeks scene blamed (tries_under (take i dirs) name) p q → Seeks scene blamed (record { dir = dir; name = name } ∷ []) q r → Seeks scene blamed (tries_under (take (i + 1) dirs) name) p r
under-next scene blamed dirs name i dir p q r lt e a b =
    let f : List ℕ → Try = λ d. record { dir = d; name = name } in
    let more : tries_under (take i dirs) name ++ f dir ∷ [] ≡ tries_under (take (i + 1) dirs) name = ap (λ d. tries_under (take i dirs) name ++ f d ∷ []) e ∙ sym (map_more f dirs i dir lt) in
    seeks-as scene blamed _ _ p r more (seeks-join scene blamed (tries_under (take i dirs) name) (f dir ∷ []) p q r a b)

pub under-end : (scene : Scene) (blamed : List ℕ) (dirs : Names) (name : List ℕ) (i : ℕ) (p q : Progress) → length dirs ≤ i → Seeks scene blamed (tries_under (take i dirs) name) p q → Seeks scene blamed (tries_under dirs name) p q
under-end scene blamed dirs name i p q le a = subst (λ ds. Seeks scene blamed (tries_under ds name) p q) (texts-all dirs i le) a

-- a first directory, those for quoted names, and those for both kinds
pub under-three : (scene : Scene) (blamed : List ℕ) (xs ys zs : Names) (name : List ℕ) (p q r s : Progress) → Seeks scene blamed (tries_under xs name) p q → Seeks scene blamed (tries_under ys name) q r → Seeks scene blamed (tries_under zs name) r s
    → Seeks scene blamed (tries_under (xs ++ ys ++ zs) name) p s
under-three scene blamed xs ys zs name p q r s a b c =
    let f : List ℕ → Try = λ d. record { dir = d; name = name } in
    seeks-as scene blamed _ _ p s (sym (map-append f (xs ++ ys) zs ∙ ap (λ front. front ++ tries_under zs name) (map-append f xs ys)))
    (seeks-join scene blamed (tries_under xs name ++ tries_under ys name) (tries_under zs name) p r s (seeks-join scene blamed (tries_under xs name) (tries_under ys name) p q r a b) c)

flat-push : {A : Type 0} (f : A → List Try) (xs : List A) (x : A) → flat_map f (xs ++ x ∷ []) ≡ flat_map f xs ++ f x
flat-push f [] x = append-nil (f x)
flat-push f (y ∷ ys) x = ap (λ rest. f y ++ rest) (flat-push f ys x) ∙ sym (append_assoc (f y) (flat_map f ys) (f x))

pub flat-next : {A : Type 0} (scene : Scene) (blamed : List ℕ) (f : A → List Try) (all : List A) (i : ℕ) (x : A) (p q r : Progress) → i < length all → x ≡ get_or all i x
    → Seeks scene blamed (flat_map f (take i all)) p q → Seeks scene blamed (f x) q r → Seeks scene blamed (flat_map f (take (i + 1) all)) p r
flat-next scene blamed f all i x p q r lt e a b =
    let more : flat_map f (take i all) ++ f x ≡ flat_map f (take (i + 1) all) = sym (flat-push f (take i all) x) ∙ ap (λ y. flat_map f (take i all ++ y ∷ [])) e ∙ ap (flat_map f) (sym (take_more all i x lt)) in
    seeks-as scene blamed _ _ p r more (seeks-join scene blamed (flat_map f (take i all)) (f x) p q r a b)

take-whole : {A : Type 0} (all : List A) (i : ℕ) → length all ≤ i → take i all ≡ all
take-whole all i le = sym (append-nil (take i all)) ∙ ap (λ rest. take i all ++ rest) (sym (drop_all i all le)) ∙ take-append-drop i all

pub flat-end : {A : Type 0} (scene : Scene) (blamed : List ℕ) (f : A → List Try) (all : List A) (i : ℕ) (p q : Progress) → length all ≤ i → Seeks scene blamed (flat_map f (take i all)) p q → Seeks scene blamed (flat_map f all) p q
flat-end scene blamed f all i p q le a = subst (λ xs. Seeks scene blamed (flat_map f xs) p q) (take-whole all i le) a

flat-mapped : {A B : Type 0} (f : B → List Try) (g : A → B) (xs : List A) → flat_map (λ x. f (g x)) xs ≡ flat_map f (map g xs)
flat-mapped f g [] = refl
flat-mapped f g (x ∷ xs) = ap (λ rest. f (g x) ++ rest) (flat-mapped f g xs)

pub flat-end-mapped : {A B : Type 0} (scene : Scene) (blamed : List ℕ) (f : B → List Try) (g : A → B) (all : List A) (i : ℕ) (p q : Progress) → length all ≤ i → Seeks scene blamed (flat_map (λ x. f (g x)) (take i all)) p q → Seeks scene blamed (flat_map f (map g all)) p q
flat-end-mapped scene blamed f g all i p q le a = seeks-as scene blamed _ _ p q (flat-mapped f g all) (flat-end scene blamed (λ x. f (g x)) all i p q le a)
