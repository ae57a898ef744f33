-- Messages read one after the other.
use Rattle.std.proofs.Common.{◌≡◌, List, [], ◌∷◌, ◌++◌, ℕ, Result, Ok, Err, refl, sym, ap, ◌∙◌, append_assoc}
use Rattle.rx_base.specs.Results.{◌>>=◌}
use Rattle.rx_wire.specs.Values.{Field}
use Rattle.rx_codec.specs.Contents.{each_of}
use Rattle.rx_codec.specs.FieldBytes.{fields_in}
use Rattle.rx_codec.specs.declared.faults.MessageFault.{MessageFault}

-- these before the others
abbrev pub onto : {A : Type 0} → List A → Result (List A) MessageFault → Result (List A) MessageFault
onto done others = others >>= (λ xs. Ok (done ++ xs))

onto-more : {A : Type 0} (done : List A) (x : A) (r : Result (List A) MessageFault) → onto done (r >>= (λ xs. Ok (x ∷ xs))) ≡ onto (done ++ x ∷ []) r
onto-more done x (Ok xs) = ap Ok (sym (append_assoc done (x ∷ []) xs))
onto-more done x (Err e) = refl

pub each_more : {A : Type 0} (from : List Field → Result A MessageFault) (whole : Result (List A) MessageFault) (done : List A) (piece : List ℕ) (pieces : List (List ℕ)) (x : A)
    → whole ≡ onto done (each_of from (piece ∷ pieces)) → from (fields_in piece) ≡ Ok x → whole ≡ onto (done ++ x ∷ []) (each_of from pieces)
each_more from whole done piece pieces x e read = e ∙ (rw read (onto-more done x (each_of from pieces)))

pub each_stops : {A : Type 0} (from : List Field → Result A MessageFault) (whole : Result (List A) MessageFault) (done : List A) (piece : List ℕ) (pieces : List (List ℕ)) (fault : MessageFault)
    → whole ≡ onto done (each_of from (piece ∷ pieces)) → from (fields_in piece) ≡ Err fault → whole ≡ Err fault
each_stops from whole done piece pieces fault e read = e ∙ (rw read refl)
