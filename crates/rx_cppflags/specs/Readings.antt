-- How a compile command is read.
use Rattle.std.specs.Prelude.{◌≡◌, ℕ, Bool, true, false, not, ◌&&◌, List, [], ◌∷◌, ◌++◌, drop, Option, Some, None, if◌then◌else◌}
use Rattle.std.specs.List.{AllByRecursion}
use Rattle.rx_base.specs.Paths.{is_below}
use Rattle.rx_base.specs.SortedPaths.{sorted_paths}
use Rattle.rx_world.specs.declared.commands.Command.{Command}
use Rattle.rx_cppflags.specs.declared.meanings.Meaning.TheVariants.{QuoteDir, Dir, SystemDir, AfterDir, Forced, Sysroot, Output, CompileOnly}
use Rattle.rx_cppflags.specs.declared.readings.Reading.{Reading}
use Rattle.rx_cppflags.specs.declared.readings.Reading.TheVariants.{Compile, LocalOnly}
use Rattle.rx_cppflags.specs.Pieces.{Saying, sayings}
use Rattle.rx_cppflags.specs.Found.{has_meaning, has_meaning_again, is_c, outputs_of, paths_of, sources_of, texts_of, walked_of}
use Rattle.rx_cppflags.specs.LocalOutputs.{local_outputs}
use Rattle.rx_cppflags.specs.Made.{with_made}
use Rattle.rx_cppflags.specs.Outside.{outside_of}
use Rattle.rx_cppflags.specs.Variables.{first_variable}

-- the compiler; a command without words has the empty text for it
abbrev pub first_word : List (List ℕ) → List ℕ
first_word [] = []
first_word (word ∷ others) = word

-- a compile command with this source
abbrev pub compile_of : List Saying → List ℕ → Reading
compile_of said source =
    Compile
    source
    (paths_of QuoteDir said)
    (paths_of Dir said ++ paths_of SystemDir said ++ paths_of AfterDir said)
    (texts_of Forced said)
    (walked_of said)
    (paths_of Sysroot said)
    (sorted_paths (outputs_of said))
    (is_c said)

-- unless its environment has one of these variables; only the machine itself can run it then, and it has these outputs
abbrev pub unless_variable : Option (List ℕ) → List (List ℕ) → Reading → Reading
unless_variable None outputs reading = reading
unless_variable (Some name) outputs reading = LocalOnly name outputs

-- the one path of a list that has one
abbrev pub only_path : List (List ℕ) → Option (List ℕ)
only_path [] = None
only_path (path ∷ []) = Some path
only_path (path ∷ other ∷ others) = None

-- whether the words say that it compiles, and name one object at most
abbrev pub has_one_object : List Saying → Bool
has_one_object said = has_meaning CompileOnly said && not (has_meaning_again Output said)

-- where there are such words with one source
abbrev pub compile_from : Command → List (List ℕ) → List Saying → Option (List ℕ) → Reading
compile_from command outputs said None = LocalOnly (first_word command.words) outputs
compile_from command outputs said (Some source) =
    if has_one_object said
    then unless_variable (first_variable command.environment) outputs (compile_of said source)
    else LocalOnly (first_word command.words) outputs

-- where each of them is a compile word
abbrev pub reading_unless : Command → List (List ℕ) → List Saying → Option (List ℕ) → Reading
reading_unless command outputs said None = compile_from command outputs said (only_path (sources_of said))
reading_unless command outputs said (Some word) = LocalOnly word outputs

-- by what its words say; one that only the machine itself can run has these outputs
abbrev pub reading_by : Command → List (List ℕ) → List Saying → Reading
reading_by command outputs said = reading_unless command outputs said (outside_of command.outputs said)

abbrev pub reading_from : Command → List Saying → Reading
reading_from command said = reading_by command (local_outputs command said) said

-- what words in this directory with these declared inputs say and make
abbrev pub all_said : List ℕ → List (List ℕ) → List (List ℕ) → List Saying
all_said directory inputs words = with_made directory inputs (sayings directory inputs words)

-- How a command with these declared inputs is read.
unfoldable pub reading_of : Command → List (List ℕ) → Reading
reading_of command inputs = reading_from command (all_said command.working_directory inputs (drop 1 command.words))

-- ---- the outputs of a command

-- An output that its command may write: it lies below the working directory, above no declared input, and
-- above and below none of the outputs that the command has or that its words name.
pub record IsSafeOutput (command : Command) (inputs outputs : List (List ℕ)) (path : List ℕ) : Type 0 where
  pub below : is_below path command.working_directory ≡ true
  pub clear : AllByRecursion (λ input. is_below input path ≡ false) inputs
  pub apart : AllByRecursion (λ other. (is_below path other ≡ false) × (is_below other path ≡ false)) (command.outputs ++ outputs)

-- each output that its words name is such
abbrev pub HasSafeOutputs : Command → List (List ℕ) → Reading → Type 0
HasSafeOutputs command inputs (Compile source quote_dirs dirs forced walked sysroots outputs is_c) = AllByRecursion (IsSafeOutput command inputs outputs) outputs
HasSafeOutputs command inputs (LocalOnly word outputs) = AllByRecursion (IsSafeOutput command inputs outputs) outputs
