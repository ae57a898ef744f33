-- Digests among others, the first item of each, and what is refused.
use Rattle.std.proofs.Common.{◌≡◌, ℕ, Bool, true, false, cond, List, [], ◌∷◌, ◌++◌, length, Option, None, Some, Result, Ok, Err, IfOk, refl, sym, ap, ◌∙◌, suc, inl, inr, ◌<◌, ◌+◌, get_or, take}
use Rattle.std.specs.Prelude.{is_some, filter, ◌&&◌, ◌||◌}
use Rattle.std.proofs.lemmas.List.{append-nil}
use Rattle.std.proofs.lemmas.List.Elements.{filter_more}
use Rattle.std.proofs.lemmas.List.Folds.{list_all_at, list_all_more, list_any_more}
use Rattle.std.specs.Cmp.{IsEquivalence, eq_by_cmp_equiv}
use Rattle.std.specs.HashMap.Eq.{lookup_congr}
use Rattle.std.specs.List.{list_all}
use Rattle.std.specs.Map.{lookup}
use Rattle.std.specs.Option.{option_or}
use Rattle.std.specs.Ordering.{eq_by_cmp}
use Rattle.rx_base.specs.Digests.{by_digest, by_digest_total}
use Rattle.rx_base.specs.Results.{◌>>=◌}
use Rattle.rx_base.specs.declared.digests.Digest.{Digest}
use Rattle.rx_exec_messages.specs.Calls.{IsPartOf}
use Rattle.rx_grpc.specs.declared.blob_items.Given.{Given}
use Rattle.rx_grpc.specs.Batches.{first_for, has}
use Rattle.rx_grpc.specs.Each.{each}

both : {A B C : Type 0} (f : A → B → C) {a c : A} {b d : B} → a ≡ c → b ≡ d → f a b ≡ f c d
both f {a} {c} {b} {d} e g = ap (λ x. f x b) e ∙ ap (λ y. f c y) g

same_digest : IsEquivalence (eq_by_cmp by_digest)
same_digest = eq_by_cmp_equiv by_digest_total

-- ---- tests that agree

pub all-same : {A : Type 0} (p q : A → Bool) (xs : List A) → ((x : A) → p x ≡ q x) → list_all p xs ≡ list_all q xs
all-same p q [] same = refl
all-same p q (x ∷ xs) same = both (λ (a b : Bool). a && b) (same x) (all-same p q xs same)

pub none-fails : {A : Type 0} (p : A → Bool) (xs : List A) (i : ℕ) (d : A) → i < length xs → p (get_or xs i d) ≡ false → false ≡ list_all p xs
none-fails p xs i d lt fails = sym (list_all_at p xs i d lt fails)

pub all-more : {A : Type 0} (p : A → Bool) (xs : List A) (i : ℕ) (d : A) → i < length xs → list_all p (take i xs) ≡ true → p (get_or xs i d) ≡ true → list_all p (take (i + 1) xs) ≡ true
all-more p xs i d lt all one = list_all_more p xs i d lt ∙ both (λ (a b : Bool). a && b) all one

pub those-more : {A : Type 0} (p : A → Bool) (xs ys : List A) (i : ℕ) (d : A) → i < length xs → ys ≡ filter p (take i xs) → p (get_or xs i d) ≡ true → ys ++ get_or xs i d ∷ [] ≡ filter p (take (i + 1) xs)
those-more p xs ys i d lt those one =
    both (λ (zs : List _) (b : Bool). zs ++ cond b (get_or xs i d ∷ []) []) those (sym one) ∙ sym (filter_more p xs i d lt)

pub those-same : {A : Type 0} (p : A → Bool) (xs ys : List A) (i : ℕ) (d : A) → i < length xs → ys ≡ filter p (take i xs) → p (get_or xs i d) ≡ false → ys ≡ filter p (take (i + 1) xs)
those-same p xs ys i d lt those one =
    sym (append-nil ys) ∙ both (λ (zs : List _) (b : Bool). zs ++ cond b (get_or xs i d ∷ []) []) those (sym one) ∙ sym (filter_more p xs i d lt)

-- ---- sets

or-by : (b x : Bool) → cond b true x ≡ (x || b)
or-by true true = refl
or-by true false = refl
or-by false true = refl
or-by false false = refl

pub set-more : (xs : List Digest) (i : ℕ) (d : Digest) (q : Digest) (old new : Bool) → i < length xs → old ≡ has (take i xs) q → new ≡ cond (eq_by_cmp by_digest (get_or xs i d) q) true old → new ≡ has (take (i + 1) xs) q
set-more xs i d q old new lt before step =
    step ∙ both (λ (b x : Bool). cond b true x) (same_digest.symm (get_or xs i d) q) before
    ∙ or-by (eq_by_cmp by_digest q (get_or xs i d)) (has (take i xs) q)
    ∙ sym (list_any_more (eq_by_cmp by_digest q) xs i d lt)

-- ---- the first item

chosen : {X : Type 0} (b : Bool) (v : X) (x y z : Option X) → x ≡ option_or y z → cond b (Some v) x ≡ option_or (cond b (Some v) y) z
chosen true v x y z e = refl
chosen false v x y z e = e

pub lookup-append : {K X : Type 0} (test : K → Bool) (es fs : List (K × X)) → lookup test (es ++ fs) ≡ option_or (lookup test es) (lookup test fs)
lookup-append test [] fs = refl
lookup-append test (e ∷ es) fs = chosen (test e.0) e.1 (lookup test (es ++ fs)) (lookup test es) (lookup test fs) (lookup-append test es fs)

-- the look-ups of two digests that are the same
alike : (items : List (Digest × Given)) (q k : Digest) → eq_by_cmp by_digest q k ≡ true → first_for items q ≡ first_for items k
alike items q k is = lookup_congr (eq_by_cmp by_digest) same_digest.congr items q k is

stays-by : (b : Bool) (old : Option Given) (v : Given) → (b ≡ true → is_some old ≡ true) → option_or old (cond b (Some v) None) ≡ old
stays-by true None v there = let e : false ≡ true = there refl in absurd cc
stays-by true (Some x) v there = refl
stays-by false None v there = refl
stays-by false (Some x) v there = refl

-- one more item of a digest that has one
pub first-stays : (items : List (Digest × Given)) (k : Digest) (v : Given) (q : Digest) → is_some (first_for items k) ≡ true → first_for (items ++ (k, v) ∷ []) q ≡ first_for items q
first-stays items k v q there =
    lookup-append (eq_by_cmp by_digest q) items ((k, v) ∷ [])
    ∙ stays-by (eq_by_cmp by_digest q k) (first_for items q) v (λ is. ap is_some (alike items q k is) ∙ there)

comes-by : (b : Bool) (old : Option Given) (v : Given) → (b ≡ true → is_some old ≡ false) → option_or old (cond b (Some v) None) ≡ cond b (Some v) old
comes-by true None v none = refl
comes-by true (Some x) v none = let e : true ≡ false = none refl in absurd cc
comes-by false None v none = refl
comes-by false (Some x) v none = refl

-- and of one that has none
pub first-comes : (items : List (Digest × Given)) (k : Digest) (v : Given) (q : Digest) → is_some (first_for items k) ≡ false → first_for (items ++ (k, v) ∷ []) q ≡ cond (eq_by_cmp by_digest k q) (Some v) (first_for items q)
first-comes items k v q none =
    lookup-append (eq_by_cmp by_digest q) items ((k, v) ∷ [])
    ∙ comes-by (eq_by_cmp by_digest q k) (first_for items q) v (λ is. ap is_some (alike items q k is) ∙ none)
    ∙ ap (λ (b : Bool). cond b (Some v) (first_for items q)) (same_digest.symm q k)

-- ---- what the answers are

skip : {A : Type 0} (x : A) (ys xs : List A) → IsPartOf ys xs → IsPartOf ys (x ∷ xs)
skip x [] xs part = tt
skip x (y ∷ ys) xs part = inr part

part-by : {A : Type 0} (b : Bool) (x : A) (ys xs : List A) → IsPartOf ys xs → IsPartOf (cond b (x ∷ ys) ys) (x ∷ xs)
part-by true x ys xs part = inl (refl, part)
part-by false x ys xs part = skip x ys xs part

pub part-of : {A : Type 0} (p : A → Bool) (xs : List A) → IsPartOf (filter p xs) xs
part-of p [] = tt
part-of p (x ∷ xs) = part-by (p x) x (filter p xs) xs (part-of p xs)

longer : {A B E : Type 0} (xs : List A) (r : Result B E) (rs : Result (List B) E) → IfOk rs (λ ys. length ys ≡ length xs) → IfOk (r >>= (λ y. rs >>= (λ ys. Ok (y ∷ ys)))) (λ ys. length ys ≡ suc (length xs))
longer xs (Ok y) (Ok ys) same = ap suc same
longer xs (Ok y) (Err e) same = tt
longer xs (Err e) rs same = tt

pub each-long : {A B E : Type 0} (f : A → Result B E) (xs : List A) → IfOk (each f xs) (λ ys. length ys ≡ length xs)
each-long f [] = refl
each-long f (x ∷ xs) = longer xs (f x) (each f xs) (each-long f xs)
