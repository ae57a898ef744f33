-- Results, one after the other.
use Rattle.std.proofs.Common.{◌≡◌, List, [], ◌∷◌, ◌++◌, Result, Ok, Err, refl, sym, ap, ◌∙◌, append_assoc}
use Rattle.rx_base.specs.Results.{◌>>=◌}
use Rattle.rx_grpc.specs.Each.{each}

-- these before the others
abbrev pub onto : {B E : Type 0} → List B → Result (List B) E → Result (List B) E
onto done others = others >>= (λ ys. Ok (done ++ ys))

onto-more : {B E : Type 0} (done : List B) (y : B) (r : Result (List B) E) → onto done (r >>= (λ ys. Ok (y ∷ ys))) ≡ onto (done ++ y ∷ []) r
onto-more done y (Ok ys) = ap Ok (sym (append_assoc done (y ∷ []) ys))
onto-more done y (Err e) = refl

pub onto-none : {B E : Type 0} (r : Result (List B) E) → r ≡ onto [] r
onto-none (Ok ys) = refl
onto-none (Err e) = refl

pub each-more : {A B E : Type 0} (f : A → Result B E) (whole : Result (List B) E) (done : List B) (x : A) (xs : List A) (y : B)
    → whole ≡ onto done (each f (x ∷ xs)) → f x ≡ Ok y → whole ≡ onto (done ++ y ∷ []) (each f xs)
each-more f whole done x xs y e is = e ∙ (rw is (onto-more done y (each f xs)))

pub each-stops : {A B E : Type 0} (f : A → Result B E) (whole : Result (List B) E) (done : List B) (x : A) (xs : List A) (e : E)
    → whole ≡ onto done (each f (x ∷ xs)) → f x ≡ Err e → whole ≡ Err e
each-stops f whole done x xs e is err = is ∙ (rw err refl)
