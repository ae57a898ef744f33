-- What words say, one word after the other.
use Rattle.std.proofs.Common.{◌≡◌, ℕ, Bool, true, false, List, [], ◌∷◌, ◌++◌, length, Option, sym, ◌∙◌, append_assoc, append-nil, arith}
use Rattle.rx_cppflags.specs.Rows.{Row, row_for}
use Rattle.rx_cppflags.specs.Pieces.{Saying, said_by, sayings_after, uses_next}

-- a word that was the value of the one before
pub passes_over : (directory : List ℕ) (inputs rest others : List (List ℕ)) (word : List ℕ) (before all : List Saying) (is_value : Bool)
    → before ++ sayings_after directory inputs is_value rest ≡ all → is_value ≡ true → rest ≡ word ∷ others
    → before ++ sayings_after directory inputs false others ≡ all
unfolding sayings_after
passes_over directory inputs rest others word before all is_value h t r = rw (t, r) at h

-- another word
pub goes_on : (directory : List ℕ) (inputs rest others : List (List ℕ)) (word : List ℕ) (row : Option Row) (before after all : List Saying) (is_value next : Bool)
    → before ++ sayings_after directory inputs is_value rest ≡ all → is_value ≡ false → rest ≡ word ∷ others
    → row ≡ row_for word → after ≡ before ++ said_by directory inputs row word others ∷ [] → next ≡ uses_next row word
    → after ++ sayings_after directory inputs next others ≡ all
unfolding sayings_after
goes_on directory inputs rest others word row before after all is_value next h f r is a n =
    rw (a, n, is, append_assoc) (rw (f, r) at h)

-- the end
pub ends : (directory : List ℕ) (inputs rest : List (List ℕ)) (before all : List Saying) (is_value : Bool)
    → before ++ sayings_after directory inputs is_value rest ≡ all → length rest ≡ 0 → before ≡ all
unfolding sayings_after
ends directory inputs [] before all true h e = sym (append-nil before) ∙ h
ends directory inputs [] before all false h e = sym (append-nil before) ∙ h
ends directory inputs (word ∷ rest) before all is_value h e = absurd (omega arith)
