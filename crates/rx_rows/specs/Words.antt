-- The words of a row, with one space between each two.
use Rattle.std.specs.Prelude.{◌≡◌, ◌≢◌, ◌<◌, ℕ, List, [], ◌∷◌, ◌++◌, length, slice_index, Option, None, Some}

-- how what is left of a row stands behind the word before it
abbrev pub behind : Option (List ℕ) → List ℕ
behind None = []
behind (Some rest) = 32 ∷ rest

-- no space in the first so many bytes
abbrev pub NoSpace : List ℕ → ℕ → Type 0
NoSpace text end = (k : ℕ) → k < end → slice_index text k ≢ 32

-- This word stands first in what was left, and what is left now behind it.
pub record IsWord (old : Option (List ℕ)) (word : List ℕ) (new : Option (List ℕ)) : Type 0 where
  pub is : old ≡ Some (word ++ behind new)
  pub no_space : NoSpace word (length word)

-- an answer that a word can follow, and with that word
abbrev pub parted : List ℕ → List ℕ
parted [] = []
parted (b ∷ bs) = (b ∷ bs) ++ (32 ∷ [])

abbrev pub with_word : List ℕ → List ℕ → List ℕ
with_word text word = parted text ++ word
