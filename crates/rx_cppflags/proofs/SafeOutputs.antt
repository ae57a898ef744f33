-- The outputs of a compile command are safe.
use Rattle.std.proofs.Common.{◌≡◌, ℕ, Bool, true, false, not, ◌||◌, inl, inr, List, [], ◌∷◌, ◌++◌, Option, Some, None, Result, Ok, Err, IfOk, refl, sym, ◌∙◌, subst, cond, drop, map}
use Rattle.std.specs.List.{AllByRecursion, find, list_any}
use Rattle.std.specs.Option.{option_map}
use Rattle.std.proofs.lemmas.Bool.{cond_both, and_parts, cases_Bool, not-true, or_parts, or_right}
use Rattle.rx_base.specs.Paths.{is_below}
use Rattle.rx_base.specs.SortedPaths.{sorted_paths}
use Rattle.rx_world.specs.declared.commands.Command.{Command}
use Rattle.rx_cppflags.specs.declared.meanings.Meaning.{Meaning}
use Rattle.rx_cppflags.specs.declared.meanings.Meaning.TheVariants.{Output, Made}
use Rattle.rx_cppflags.specs.declared.readings.Reading.{Reading}
use Rattle.rx_cppflags.specs.declared.readings.Reading.TheVariants.{LocalOnly}
use Rattle.rx_cppflags.specs.Meanings.{same, names_output}
use Rattle.rx_cppflags.specs.Places.{is_writable, kept, path_from, path_of}
use Rattle.rx_cppflags.specs.Rows.{Row, row_for, own_value, takes_next}
use Rattle.rx_cppflags.specs.Pieces.{Saying, said_by, saying, sayings_after, uses_next, with_next}
use Rattle.rx_cppflags.specs.Found.{outputs_of, path_for, paths_of, sources_of}
use Rattle.rx_cppflags.specs.Made.{made_texts}
use Rattle.rx_cppflags.specs.Outside.{is_apart, is_in_table, outside_of}
use Rattle.rx_cppflags.specs.Variables.{first_variable}
use Rattle.rx_cppflags.specs.LocalOutputs.{apart_paths, local_outputs}
use Rattle.rx_cppflags.specs.Readings.{HasSafeOutputs, IsSafeOutput, all_said, compile_from, compile_of, first_word, has_one_object, only_path, reading_of, reading_unless, unless_variable}
use Rattle.rx_cppflags.proofs.Lists.{all_pass, each, none_passes, of_passing, of_sorted, with_option}
use Rattle.rx_base.proofs.Lists.{All-append, All-back, All-front, All-weaken}

-- ---- what each word's path is

next_placed : (d : List ℕ) (inputs : List (List ℕ)) (meaning : Meaning) (word : List ℕ) (others : List (List ℕ))
    → (with_next d inputs meaning word others).path ≡ path_of d inputs (with_next d inputs meaning word others).meaning (with_next d inputs meaning word others).text
next_placed d inputs meaning word [] = refl
next_placed d inputs meaning word (next ∷ others) = refl

said_placed : (d : List ℕ) (inputs : List (List ℕ)) (row : Option Row) (word : List ℕ) (others : List (List ℕ))
    → (said_by d inputs row word others).path ≡ path_of d inputs (said_by d inputs row word others).meaning (said_by d inputs row word others).text
said_placed d inputs None word others = refl
said_placed d inputs (Some row) word others =
    cond_both (takes_next word row) (with_next d inputs row.meaning word others) (saying d inputs row.meaning (own_value word row) word) (λ s. s.path ≡ path_of d inputs s.meaning s.text)
    (λ _. next_placed d inputs row.meaning word others)
    (λ _. refl)

placed : (d : List ℕ) (inputs : List (List ℕ)) (is_value : Bool) (words : List (List ℕ)) → AllByRecursion (λ s. s.path ≡ path_of d inputs s.meaning s.text) (sayings_after d inputs is_value words)
unfolding sayings_after
placed d inputs true [] = tt
placed d inputs false [] = tt
placed d inputs true (word ∷ others) = placed d inputs false others
placed d inputs false (word ∷ others) = (said_placed d inputs (row_for word) word others, placed d inputs (uses_next (row_for word) word) others)

made_placed : (d : List ℕ) (inputs texts : List (List ℕ)) → AllByRecursion (λ s. s.path ≡ path_of d inputs s.meaning s.text) (map (λ text. saying d inputs Made text text) texts)
made_placed d inputs [] = tt
made_placed d inputs (text ∷ texts) = (refl, made_placed d inputs texts)

all_placed : (d : List ℕ) (inputs words : List (List ℕ)) → AllByRecursion (λ s. s.path ≡ path_of d inputs s.meaning s.text) (all_said d inputs words)
all_placed d inputs words =
    let said : List Saying = sayings_after d inputs false words in
    All-append (λ s. s.path ≡ path_of d inputs s.meaning s.text) said (map (λ text. saying d inputs Made text text) (made_texts said)) (placed d inputs false words) (made_placed d inputs (made_texts said))

-- ---- what is known of each word in the table

none_outside : (test : Saying → Bool) (said : List Saying) → option_map (λ s. s.word) (find (λ s. not (test s)) said) ≡ None → AllByRecursion (λ s. test s ≡ true) said
none_outside test [] e = tt
none_outside test (s ∷ said) e =
    elim (cases_Bool (test s)) [
      | inl t ↦ (t, none_outside test said (rw t at e))
      | inr f ↦ let wrong = rw f at e in absurd (cc wrong)
    ]

passed : (test : List ℕ → Bool) (path : List ℕ) (b : Bool) (found : List ℕ) → test found ≡ b → cond b (Some found) None ≡ Some path → test path ≡ true
passed test path true found t e = let same_path : found ≡ path = cc in rw (sym same_path) t
passed test path false found t e = absurd (cc e)

kept_passes : (test : List ℕ → Bool) (o : Option (List ℕ)) (path : List ℕ) → kept test o ≡ Some path → test path ≡ true
kept_passes test None path e = absurd (cc e)
kept_passes test (Some found) path e = passed test path (test found) found refl e

-- a path that a command may write, apart from these
abbrev IsWritten : List ℕ → List (List ℕ) → List (List ℕ) → List ℕ → Type 0
IsWritten d inputs outputs path = (is_writable d inputs path ≡ true) × (is_apart outputs path ≡ true)

-- the path of each word that names an output may be written
writable : (d : List ℕ) (inputs : List (List ℕ)) (s : Saying) → s.path ≡ path_of d inputs s.meaning s.text
    → (path : List ℕ) → names_output s.meaning ≡ true → s.path ≡ Some path → is_writable d inputs path ≡ true
writable d inputs s p path n e =
    let from_text : kept (is_writable d inputs) (path_from d s.text) ≡ Some path = sym (rw n at p) ∙ e in
    kept_passes (is_writable d inputs) (path_from d s.text) path from_text

written : (d : List ℕ) (inputs outputs : List (List ℕ)) (all : List Saying) (s : Saying) → is_in_table all outputs s ≡ true → s.path ≡ path_of d inputs s.meaning s.text
    → (path : List ℕ) → names_output s.meaning ≡ true → s.path ≡ Some path → IsWritten d inputs outputs path
written d inputs outputs all s t p path n e =
    let apart : is_apart outputs path ≡ true = rw (n, e) at t in
    (writable d inputs s p path n e, apart)

-- ---- from the words to the outputs

for_meaning : (meaning : Meaning) (P : List ℕ → Type 0) (s : Saying) → ((path : List ℕ) → same s.meaning meaning ≡ true → s.path ≡ Some path → P path)
    → (path : List ℕ) → path_for meaning s ≡ Some path → P path
for_meaning meaning P s f path e =
    elim (cases_Bool (same s.meaning meaning)) [
      | inl t ↦ f path t (rw t at e)
      | inr n ↦ let wrong = rw n at e in absurd (cc wrong)
    ]

each_path : (meaning : Meaning) (P : List ℕ → Type 0) (said : List Saying) → AllByRecursion (λ s. (path : List ℕ) → same s.meaning meaning ≡ true → s.path ≡ Some path → P path) said
    → AllByRecursion P (paths_of meaning said)
each_path meaning P [] p = tt
each_path meaning P (s ∷ said) p = with_option P (path_for meaning s) (paths_of meaning said) (for_meaning meaning P s p.0) (each_path meaning P said p.1)

is_output : (m : Meaning) → same m Output ≡ true → names_output m ≡ true
is_output m e = rw e refl

is_made : (m : Meaning) → same m Made ≡ true → names_output m ≡ true
is_made m e = rw e (or_right (same m Output) true refl)

each_output : (P : List ℕ → Type 0) (said : List Saying) → AllByRecursion (λ s. (path : List ℕ) → names_output s.meaning ≡ true → s.path ≡ Some path → P path) said
    → AllByRecursion P (outputs_of said)
each_output P said p =
    let named : (meaning : Meaning) → ((m : Meaning) → same m meaning ≡ true → names_output m ≡ true) → AllByRecursion P (paths_of meaning said) = λ meaning names.
    each_path meaning P said (each _ (λ _. Unit {0}) _ (λ s f _ path e. f path (names s.meaning e)) said p (each _ _ (λ _. Unit {0}) (λ _ _ _. tt) said p p)) in
    All-append P (paths_of Output said) (paths_of Made said) (named Output is_output) (named Made is_made)

-- neither above nor below
abbrev Far : List ℕ → List ℕ → Type 0
Far path other = (is_below path other ≡ false) × (is_below other path ≡ false)

-- nothing that is apart from others stands above or below one of them
all_far : (path : List ℕ) (others : List (List ℕ)) → is_apart others path ≡ true → AllByRecursion (Far path) others
all_far path others e =
    let near : List ℕ → Bool = λ other. is_below path other || is_below other path in
    All-weaken (λ other. near other ≡ false) (Far path) others (λ other f. or_parts (is_below path other) (is_below other path) f)
    (none_passes near others (not-true (list_any near others) e))

-- what the definition tests of an output is what is promised of it, among the outputs that are left of those that are named
safe : (command : Command) (inputs named left : List (List ℕ)) (path : List ℕ) → IsWritten command.working_directory inputs (command.outputs ++ named) path
    → (AllByRecursion (Far path) named → AllByRecursion (Far path) left) → IsSafeOutput command inputs left path
safe command inputs named left path w keeps =
    let far : AllByRecursion (Far path) (command.outputs ++ named) = all_far path (command.outputs ++ named) w.1 in
    let above : List ℕ → Bool = λ input. is_below input path in
    record {
      below = (and_parts (is_below path command.working_directory) (not (list_any above inputs)) w.0).0;
      clear = none_passes above inputs (not-true (list_any above inputs) (and_parts (is_below path command.working_directory) (not (list_any above inputs)) w.0).1);
      apart = All-append (Far path) command.outputs left (All-front (Far path) command.outputs named far) (keeps (All-back (Far path) command.outputs named far));
    }

-- ---- the outputs of a command that only the machine itself can run

left_safe : (command : Command) (inputs named : List (List ℕ)) → AllByRecursion (λ path. is_writable command.working_directory inputs path ≡ true) named
    → AllByRecursion (IsSafeOutput command inputs (sorted_paths (apart_paths command.outputs named))) (sorted_paths (apart_paths command.outputs named))
left_safe command inputs named w =
    let test : List ℕ → Bool = is_apart (command.outputs ++ named) in
    let left : List (List ℕ) = sorted_paths (apart_paths command.outputs named) in
    of_sorted (IsSafeOutput command inputs left) (apart_paths command.outputs named)
    (each (λ path. is_writable command.working_directory inputs path ≡ true) (λ path. test path ≡ true) (IsSafeOutput command inputs left)
    (λ path writable apart. safe command inputs named left path (writable, apart) (λ far. of_sorted (Far path) (apart_paths command.outputs named) (of_passing (Far path) test named far)))
    (apart_paths command.outputs named) (of_passing (λ path. is_writable command.working_directory inputs path ≡ true) test named w) (all_pass test named))

local_safe : (command : Command) (inputs : List (List ℕ)) (said : List Saying) → AllByRecursion (λ s. s.path ≡ path_of command.working_directory inputs s.meaning s.text) said
    → (word : List ℕ) → HasSafeOutputs command inputs (LocalOnly word (local_outputs command said))
local_safe command inputs said p word =
    let may_write : List ℕ → Type 0 = λ path. is_writable command.working_directory inputs path ≡ true in
    left_safe command inputs (outputs_of said)
    (each_output may_write said
    (each (λ s. s.path ≡ path_of command.working_directory inputs s.meaning s.text) (λ s. s.path ≡ path_of command.working_directory inputs s.meaning s.text)
    (λ s. (path : List ℕ) → names_output s.meaning ≡ true → s.path ≡ Some path → may_write path)
    (λ s q _. writable command.working_directory inputs s q) said p p))

-- ---- the reading

unless_safe : (command : Command) (inputs outputs : List (List ℕ)) (said : List Saying) (source : List ℕ) → ((word : List ℕ) → HasSafeOutputs command inputs (LocalOnly word outputs))
    → AllByRecursion (IsSafeOutput command inputs (sorted_paths (outputs_of said))) (sorted_paths (outputs_of said))
    → (o : Option (List ℕ)) → HasSafeOutputs command inputs (unless_variable o outputs (compile_of said source))
unless_safe command inputs outputs said source k p None = p
unless_safe command inputs outputs said source k p (Some name) = k name

compile_safe : (command : Command) (inputs outputs : List (List ℕ)) (said : List Saying) → ((word : List ℕ) → HasSafeOutputs command inputs (LocalOnly word outputs))
    → AllByRecursion (IsSafeOutput command inputs (sorted_paths (outputs_of said))) (sorted_paths (outputs_of said))
    → (o : Option (List ℕ)) → HasSafeOutputs command inputs (compile_from command outputs said o)
compile_safe command inputs outputs said k p None = k (first_word command.words)
compile_safe command inputs outputs said k p (Some source) =
    cond_both (has_one_object said) (unless_variable (first_variable command.environment) outputs (compile_of said source)) (LocalOnly (first_word command.words) outputs) (λ reading. HasSafeOutputs command inputs reading)
    (λ _. unless_safe command inputs outputs said source k p (first_variable command.environment))
    (λ _. k (first_word command.words))

outputs_safe : (command : Command) (inputs : List (List ℕ)) (said : List Saying) → AllByRecursion (λ s. s.path ≡ path_of command.working_directory inputs s.meaning s.text) said
    → outside_of command.outputs said ≡ None
    → AllByRecursion (IsSafeOutput command inputs (sorted_paths (outputs_of said))) (sorted_paths (outputs_of said))
outputs_safe command inputs said p e =
    let outputs : List (List ℕ) = command.outputs ++ outputs_of said in
    let inside : AllByRecursion (λ s. is_in_table said outputs s ≡ true) said = none_outside (is_in_table said outputs) said e in
    let all_written : AllByRecursion (IsWritten command.working_directory inputs outputs) (outputs_of said) =
    each_output (IsWritten command.working_directory inputs outputs) said
    (each (λ s. is_in_table said outputs s ≡ true) (λ s. s.path ≡ path_of command.working_directory inputs s.meaning s.text)
    (λ s. (path : List ℕ) → names_output s.meaning ≡ true → s.path ≡ Some path → IsWritten command.working_directory inputs outputs path)
    (written command.working_directory inputs outputs said) said inside p) in
    of_sorted (IsSafeOutput command inputs (sorted_paths (outputs_of said))) (outputs_of said)
    (each (IsWritten command.working_directory inputs outputs) (IsWritten command.working_directory inputs outputs) (IsSafeOutput command inputs (sorted_paths (outputs_of said)))
    (λ path w _. safe command inputs (outputs_of said) (sorted_paths (outputs_of said)) path w (λ far. of_sorted (Far path) (outputs_of said) far)) (outputs_of said) all_written all_written)

safe_unless : (command : Command) (inputs outputs : List (List ℕ)) (said : List Saying) → ((word : List ℕ) → HasSafeOutputs command inputs (LocalOnly word outputs))
    → AllByRecursion (λ s. s.path ≡ path_of command.working_directory inputs s.meaning s.text) said
    → (o : Option (List ℕ)) → outside_of command.outputs said ≡ o → HasSafeOutputs command inputs (reading_unless command outputs said o)
safe_unless command inputs outputs said k p None e = compile_safe command inputs outputs said k (outputs_safe command inputs said p e) (only_path (sources_of said))
safe_unless command inputs outputs said k p (Some word) e = k word

-- the outputs of each reading are safe
pub reading_safe : (command : Command) (inputs : List (List ℕ)) → HasSafeOutputs command inputs (reading_of command inputs)
unfolding reading_of
reading_safe command inputs =
    let said : List Saying = all_said command.working_directory inputs (drop 1 command.words) in
    let placed : AllByRecursion (λ s. s.path ≡ path_of command.working_directory inputs s.meaning s.text) said = all_placed command.working_directory inputs (drop 1 command.words) in
    safe_unless command inputs (local_outputs command said) said (local_safe command inputs said placed) placed (outside_of command.outputs said) refl

pub told_safe : {E : Type 0} (command : Command) (inputs : List (List ℕ)) (result : Result Reading E) → IfOk result (λ reading. reading ≡ reading_of command inputs) → IfOk result (λ reading. HasSafeOutputs command inputs reading)
told_safe command inputs (Ok reading) e = subst (λ (found : Reading). HasSafeOutputs command inputs found) (sym e) (reading_safe command inputs)
told_safe command inputs (Err error) e = tt
