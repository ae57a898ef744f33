-- The files that a compiler makes, by what words say.
use Rattle.std.specs.Prelude.{ℕ, ◌-◌, Bool, not, ◌&&◌, ◌||◌, List, [], ◌∷◌, ◌++◌, drop, filter, length, map, nat_eq, if◌then◌else◌, codes}
use Rattle.std.specs.List.{list_any, starts_with}
use Rattle.rx_cppflags.specs.declared.meanings.Meaning.{Meaning}
use Rattle.rx_cppflags.specs.declared.meanings.Meaning.TheVariants.{CompileOnly, Output, DependencyFile, WrittenDependencies, Dependencies, SplitDebug, StackUsage, TimeTrace, Made}
use Rattle.rx_cppflags.specs.Endings.{last_name, with_ending}
use Rattle.rx_cppflags.specs.Found.{has_meaning, texts_of}
use Rattle.rx_cppflags.specs.Meanings.{same, names_source}
use Rattle.rx_cppflags.specs.Pieces.{Saying, saying}
use Rattle.rx_cppflags.specs.Values.{begins_with_one, is_one_of}

-- ---- objects

-- the object of a source, in the working directory
abbrev pub object_of : Saying → List ℕ
object_of source = with_ending (codes ".o") (last_name source.text)

-- where sources are compiled and not linked, each source's own object
abbrev pub source_objects : List Saying → List (List ℕ)
source_objects said = if has_meaning CompileOnly said then map object_of (filter (λ s. names_source s.meaning) said) else []

-- The objects: each `-o`; without one, each source's own.
abbrev pub object_texts : List Saying → List (List ℕ)
object_texts said = if has_meaning Output said then texts_of Output said else source_objects said

-- those of them that no word names
abbrev pub unnamed_objects : List Saying → List (List ℕ)
unnamed_objects said = if has_meaning Output said then [] else source_objects said

-- ---- files of dependencies

-- of several texts the last
abbrev pub last_of : List (List ℕ) → List (List ℕ)
last_of texts = drop (length texts - 1) texts

-- The files of dependencies: the last of `-Wp,`; without one, the last `-MF`; without that, where they are asked for, each object's own.
abbrev pub dependency_texts : List Saying → List (List ℕ)
dependency_texts said =
    if has_meaning WrittenDependencies said then last_of (texts_of WrittenDependencies said)
    else if has_meaning DependencyFile said then last_of (texts_of DependencyFile said)
    else if has_meaning Dependencies said then map (with_ending (codes ".d")) (object_texts said)
    else []

-- ---- files beside the objects

-- whether a word makes debug information
abbrev pub is_debug : List ℕ → Bool
is_debug word =
    is_one_of word (codes "-g" ∷ codes "-g2" ∷ codes "-g3" ∷ codes "-ggdb" ∷ codes "-ggdb2" ∷ codes "-ggdb3" ∷ [])
    || starts_with nat_eq word (codes "-gdwarf-")

-- whether beside this word such a file may not be made
abbrev pub may_miss : List ℕ → Bool
may_miss word = begins_with_one word (codes "-flto" ∷ codes "-g0" ∷ codes "-ggdb0" ∷ codes "-gno-split" ∷ codes "-fno-stack-usage" ∷ [])

-- whether the file that a word of this meaning asks for is surely made
abbrev pub is_sure : Meaning → List Saying → Bool
is_sure meaning said = not (list_any (λ s. may_miss s.word) said) && (not (same meaning SplitDebug) || list_any (λ s. is_debug s.word) said)

-- how such a file ends
abbrev pub ending_for : Meaning → List ℕ
ending_for meaning = if same meaning SplitDebug then codes ".dwo" else if same meaning StackUsage then codes ".su" else codes ".json"

-- the files of this meaning that are surely made beside the objects
abbrev pub sides_for : Meaning → List Saying → List (List ℕ)
sides_for meaning said = if has_meaning meaning said && is_sure meaning said then map (with_ending (ending_for meaning)) (object_texts said) else []

-- ---- all of them

-- what is made besides the objects that words name
abbrev pub made_texts : List Saying → List (List ℕ)
made_texts said =
    unnamed_objects said ++ dependency_texts said ++ sides_for SplitDebug said ++ sides_for StackUsage said ++ sides_for TimeTrace said

-- what words say, and behind it what is made besides
abbrev pub with_made : List ℕ → List (List ℕ) → List Saying → List Saying
with_made directory inputs said = said ++ map (λ text. saying directory inputs Made text text) (made_texts said)
