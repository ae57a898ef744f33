-- Which values compile words may have.
use Rattle.std.specs.Prelude.{ℕ, ◌==◌, Bool, true, false, not, ◌&&◌, ◌||◌, List, [], ◌∷◌, length, nat_eq, nat_lt, codes}
use Rattle.std.specs.List.{list_all, list_any, ends_with, slice_split, starts_with}
use Rattle.std.specs.Str.{bytes_eq}
use Rattle.rx_cppflags.specs.declared.meanings.Meaning.{Meaning}
use Rattle.rx_cppflags.specs.declared.meanings.Meaning.TheVariants.{Refused, OtherSource, Machine, Target, Language, Feature, Print, Assembler, Preprocessor}
use Rattle.rx_cppflags.specs.Features.{is_far}

-- whether a text is one of these
abbrev pub is_one_of : List ℕ → List (List ℕ) → Bool
is_one_of text others = list_any (λ other. bytes_eq text other) others

-- whether a text begins with one of these
abbrev pub begins_with_one : List ℕ → List (List ℕ) → Bool
begins_with_one text starts = list_any (λ start. starts_with nat_eq text start) starts

-- whether a text has another one in it
abbrev pub has_text : List ℕ → List ℕ → Bool
has_text other [] = false
has_text other (b ∷ rest) = starts_with nat_eq (b ∷ rest) other || has_text other rest

-- whether a machine is one on which Clang looks for includes beside each file that includes
abbrev pub is_windows : List ℕ → Bool
is_windows target = has_text (codes "windows") target || has_text (codes "win32") target

-- what stands between commas
abbrev pub listed : List ℕ → List (List ℕ)
listed text = slice_split (λ b. b == 44) text

-- whether a word for the assembler has it read and write no other file
abbrev pub is_assembler_word : List ℕ → Bool
is_assembler_word word =
    begins_with_one word (codes "-m" ∷ codes "-g" ∷ codes "-W" ∷ codes "--no" ∷ codes "--compress-debug" ∷ [])
    || is_one_of word (codes "--fatal-warnings" ∷ codes "--crel" ∷ codes "--allow-experimental-crel" ∷ [])

-- whether a word for the preprocessor is whole, and says nothing that is read here
abbrev pub is_preprocessor_word : List ℕ → Bool
is_preprocessor_word word = bytes_eq word (codes "-MP") || (nat_lt 2 (length word) && begins_with_one word (codes "-D" ∷ codes "-U" ∷ []))

-- Whether a word that means this, and no path, may have this value.
abbrev pub takes_value : Meaning → List ℕ → Bool
takes_value Refused value = false
takes_value OtherSource value = false
takes_value Machine value = not (ends_with nat_eq value (codes "=native"))
takes_value Target value = not (is_windows value)
takes_value Language value = is_one_of value (codes "c" ∷ codes "c++" ∷ codes "none" ∷ [])
takes_value Feature value = not (is_far value)
takes_value Print value = not (list_any (λ b. b == 61) value || ends_with nat_eq value (codes "-file"))
takes_value Assembler value = list_all is_assembler_word (listed value)
takes_value Preprocessor value = list_all is_preprocessor_word (listed value)
takes_value meaning value = true
