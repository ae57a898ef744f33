-- Members of a list by recursion, after a filter, a map and an append.
use Rattle.std.proofs.Common.{◌≡◌, ◌⊎◌, inl, inr, Bool, true, false, cond, List, [], ◌∷◌, ◌++◌, filter, map, refl, ap, subst}
use Rattle.rx_base.proofs.Members.{Among}

among-kept_case : {K : Type 0} (b : Bool) (q x : K) (xs : List K) → Among q xs → Among q (cond b (x ∷ xs) xs)
among-kept_case true q x xs a = inr a
among-kept_case false q x xs a = a

-- a filter keeps what passes, and nothing else
pub among-filter : {K : Type 0} (p : K → Bool) (q : K) (xs : List K) → Among q xs → p q ≡ true → Among q (filter p xs)
among-filter p q [] a t = absurd a
among-filter p q (x ∷ xs) (inl e) t = rw e (rw t (inl refl))
among-filter p q (x ∷ xs) (inr a) t = among-kept_case (p x) q x (filter p xs) (among-filter p q xs a t)

filtered_case : {K : Type 0} (b : Bool) (p : K → Bool) (q x : K) (xs : List K) → p x ≡ b → Among q (cond b (x ∷ filter p xs) (filter p xs)) → (Among q (filter p xs) → Among q xs × (p q ≡ true)) → ((x ≡ q) ⊎ Among q xs) × (p q ≡ true)
filtered_case true p q x xs t (inl e) rest = (inl e, subst (λ y. p y ≡ true) e t)
filtered_case true p q x xs t (inr a) rest = let h = rest a in (inr h.0, h.1)
filtered_case false p q x xs t a rest = let h = rest a in (inr h.0, h.1)

pub among-from_filter : {K : Type 0} (p : K → Bool) (q : K) (xs : List K) → Among q (filter p xs) → Among q xs × (p q ≡ true)
among-from_filter p q [] a = absurd a
among-from_filter p q (x ∷ xs) a = filtered_case (p x) p q x xs refl a (among-from_filter p q xs)

pub among-map : {K X : Type 0} (f : K → X) (q : K) (xs : List K) → Among q xs → Among (f q) (map f xs)
among-map f q [] a = absurd a
among-map f q (x ∷ xs) (inl e) = inl (ap f e)
among-map f q (x ∷ xs) (inr a) = inr (among-map f q xs a)

pub among-from_map : {K X : Type 0} (f : K → X) (y : X) (xs : List K) → Among y (map f xs) → (q : K) × Among q xs × (f q ≡ y)
among-from_map f y [] a = absurd a
among-from_map f y (x ∷ xs) (inl e) = (x, inl refl, e)
among-from_map f y (x ∷ xs) (inr a) = let h = among-from_map f y xs a in (h.0, inr h.1, h.2)

pub among-append_left : {K : Type 0} (q : K) (xs ys : List K) → Among q xs → Among q (xs ++ ys)
among-append_left q [] ys a = absurd a
among-append_left q (x ∷ xs) ys (inl e) = inl e
among-append_left q (x ∷ xs) ys (inr a) = inr (among-append_left q xs ys a)

pub among-append_right : {K : Type 0} (q : K) (xs ys : List K) → Among q ys → Among q (xs ++ ys)
among-append_right q [] ys a = a
among-append_right q (x ∷ xs) ys a = inr (among-append_right q xs ys a)

pub among-append_cases : {K : Type 0} (q : K) (xs ys : List K) → Among q (xs ++ ys) → Among q xs ⊎ Among q ys
among-append_cases q [] ys a = inr a
among-append_cases q (x ∷ xs) ys (inl e) = inl (inl e)
among-append_cases q (x ∷ xs) ys (inr a) = elim (among-append_cases q xs ys a) [ inl left ↦ inl (inr left) | inr right ↦ inr right ]
