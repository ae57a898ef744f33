-- A path of a result is counted at the one output that it is, and nowhere else.
use Rattle.std.proofs.Common.{◌≡◌, ◌∙◌, ◌<◌, ℕ, zero, suc, Bool, true, false, cond, List, [], ◌∷◌, Option, None, Some, Result, Ok, Err, ap, arith, get_or, length, map, position, refl, set, subst, sym, true≢false, inl, inr}
use Rattle.std.proofs.lemmas.Bool.{cases_Bool, cases_lt}
use Rattle.std.proofs.lemmas.List.{get_or-map, get_or_default, length-map, map-id}
use Rattle.std.proofs.lemmas.List.Folds.{list_any_at, map_fixed}
use Rattle.std.proofs.lemmas.List.Quantifiers.{position-Some}
use Rattle.std.proofs.lemmas.Map.Keys.{Less-from_sorted}
use Rattle.std.proofs.lemmas.Slice.Eq.{bytes_eq-Decides}
use Rattle.std.specs.Cmp.Lexicographic.{slice_cmp}
use Rattle.std.specs.List.{list_any}
use Rattle.std.specs.declared.cmp.Ordering.TheVariants.{Less}
use Rattle.std.specs.Option.{is_some}
use Rattle.std.specs.Ordering.{nat_cmp}
use Rattle.std.specs.Result.{result_ok}
use Rattle.std.specs.Str.{bytes_eq}
use Rattle.rx_base.specs.declared.path_fault.PathFault.{PathFault}
use Rattle.rx_base.specs.Paths.{join_of}
use Rattle.rx_base.specs.SortedPaths.{AreSorted}
use Rattle.rx_base.proofs.FrontOrder.{not_self}
use Rattle.rx_base.proofs.SortedSearch.{position_is_any}
use Rattle.rx_world.specs.declared.commands.Command.{Command}
use Rattle.rx_results.specs.declared.result_outputs.ResultOutput.{ResultOutput}
use Rattle.rx_results.specs.declared.result_outputs.ResultFile.{ResultFile}
use Rattle.rx_results.specs.ResultOutputs.{with_one_more, with_path, AreOutputsOf}
use Rattle.rx_results.proofs.OutputLemmas.{map_same}
use Rattle.rx_results.specs.Results.{is_output, reads_as}

-- ---- lists

-- a change of the one item that passes a test
set_as_map : {A : Type 0} (p : A → Bool) (f : A → A) (xs : List A) (i : ℕ) (d : A) → i < length xs →
    p (get_or xs i d) ≡ true →
    ((k : ℕ) → k < length xs → (k ≡ i → ⊥) → p (get_or xs k d) ≡ false) →
    set xs i (f (get_or xs i d)) ≡ map (λ x. cond (p x) (f x) x) xs
set_as_map p f [] i d within here others = absurd (omega arith)
set_as_map p f (x ∷ xs) zero d within here others =
    rw here (ap (λ rest. f x ∷ rest) (sym (map_fixed (λ y. cond (p y) (f y) y) xs
    (λ k e lt. rw (get_or_default xs k e d lt, others (suc k) (omega arith) (λ is. omega arith))
    refl))))
set_as_map p f (x ∷ xs) (suc i) d within here others =
    rw (others zero (omega arith) (λ is. omega arith))
    (ap (λ rest. x ∷ rest) (set_as_map p f xs i d (omega arith) here
    (λ k lt differs. others (suc k) (omega arith) (λ is. differs (omega arith)))))

-- of sorted paths one alone is a path
only_one : (paths : List (List ℕ)) (path : List ℕ) (i k : ℕ) → AreSorted paths → i < length paths →
    k < length paths → (k ≡ i → ⊥) → path ≡ get_or paths i [] →
    bytes_eq path (get_or paths k []) ≡ false
only_one paths path i k sorted within lt differs is =
    elim (cases_Bool (bytes_eq path (get_or paths k []))) [
      | inr differing ↦ differing
      | inl ties ↦
          let same : path ≡ get_or paths k [] = (bytes_eq-Decides _ _).0 ties in
          elim (cases_lt k i) [
            | inl before ↦
                let order = Less-from_sorted (slice_cmp nat_cmp) paths k i [] sorted before within in
                absurd (not_self path (subst (λ t. slice_cmp nat_cmp t path ≡ Less) (sym same)
                (subst (λ t. slice_cmp nat_cmp (get_or paths k []) t ≡ Less) (sym is) order)))
            | inr from ↦
                let order = Less-from_sorted (slice_cmp nat_cmp) paths i k [] sorted
                (omega (arith, differs, from)) lt in
                absurd (not_self path (subst (λ t. slice_cmp nat_cmp t path ≡ Less) (sym is)
                (subst (λ t. slice_cmp nat_cmp (get_or paths i []) t ≡ Less) (sym same) order)))
          ]
    ]

-- ---- a path that is no output

-- a path that is refused
pub matched-refused : (command : Command) (text : List ℕ) (file : Option ResultFile)
    (outputs : List ResultOutput) →
    result_ok (join_of command.working_directory text) ≡ None →
    outputs ≡ map (with_path command text file) outputs
matched-refused command text file outputs none =
    elim (join_of command.working_directory text) as (λ r. result_ok r ≡ None →
    outputs ≡ map (λ (output : ResultOutput). cond (is_output output.path r)
    (with_one_more file output) output) outputs) [
      | Ok path ↦ λ e. absurd (cc e)
      | Err fault ↦ λ e. sym (map-id outputs)
    ] none

-- a path that is read
ok_from : (r : Result (List ℕ) PathFault) (path : List ℕ) → result_ok r ≡ Some path → r ≡ Ok path
ok_from (Ok other) path e = cc e
ok_from (Err fault) path e = absurd (cc e)

path_at : (command : Command) (outputs : List ResultOutput) (k : ℕ) (d : ResultOutput) →
    AreOutputsOf command outputs → k < length outputs →
    (get_or outputs k d).path ≡ get_or command.outputs k []
path_at command outputs k d are lt =
    sym (get_or-map (λ (output : ResultOutput). output.path) outputs k d [] lt)
    ∙ ap (λ (paths : List (List ℕ)). get_or paths k []) are.paths

reads_with : (command : Command) (text path : List ℕ) (file : Option ResultFile)
    (outputs : List ResultOutput) → result_ok (join_of command.working_directory text) ≡ Some path →
    map (with_path command text file) outputs ≡ map
    (λ (output : ResultOutput). cond (bytes_eq path output.path) (with_one_more file output)
    output) outputs
reads_with command text path file outputs read = map_same _ _
    (λ (output : ResultOutput). rw (ok_from _ path read) refl) outputs

-- a path that is none of the outputs
pub matched-nowhere : (command : Command) (text path : List ℕ) (file : Option ResultFile)
    (outputs : List ResultOutput) → AreOutputsOf command outputs →
    result_ok (join_of command.working_directory text) ≡ Some path →
    position (λ output. bytes_eq path output) command.outputs ≡ None →
    outputs ≡ map (with_path command text file) outputs
matched-nowhere command text path file outputs are read none =
    let any : list_any (λ output. bytes_eq path output) command.outputs ≡ false =
    sym (position_is_any (λ output. bytes_eq path output) command.outputs) ∙ ap is_some none in
    let long : length outputs ≡ length command.outputs = sym
    (length-map outputs (λ (output : ResultOutput). output.path)) ∙ ap length are.paths in
    rw (reads_with command text path file outputs read)
    (sym (map_fixed (λ (output : ResultOutput). cond (bytes_eq path output.path)
    (with_one_more file output) output) outputs
    (λ k d lt.
    elim (cases_Bool (bytes_eq path (get_or command.outputs k []))) [
      | inr other ↦ rw (path_at command outputs k d are lt, other) refl
      | inl ties ↦ absurd (true≢false (sym (list_any_at (λ output. bytes_eq path output)
          command.outputs k [] (omega arith) ties) ∙ any))
    ])))

-- ---- a path that is an output

pub matched-at : (command : Command) (text path : List ℕ) (file : Option ResultFile)
    (outputs : List ResultOutput) (at : ℕ) (d : ResultOutput) → AreOutputsOf command outputs →
    AreSorted command.outputs → result_ok (join_of command.working_directory text) ≡ Some path →
    position (λ output. bytes_eq path output) command.outputs ≡ Some at →
    set outputs at (with_one_more file (get_or outputs at d)) ≡ map (with_path command text file)
    outputs
matched-at command text path file outputs at d are sorted read found =
    let long : length outputs ≡ length command.outputs = sym
    (length-map outputs (λ (output : ResultOutput). output.path)) ∙ ap length are.paths in
    let here = position-Some (λ output. bytes_eq path output) command.outputs at [] found in
    let within : at < length outputs = omega (arith, here.0, long) in
    let is : path ≡ get_or command.outputs at [] = (bytes_eq-Decides _ _).0 here.1 in
    rw (reads_with command text path file outputs read)
    (set_as_map (λ (output : ResultOutput). bytes_eq path output.path) (with_one_more file)
    outputs at d within
    (rw (path_at command outputs at d are within) here.1)
    (λ k lt differs. rw (path_at command outputs k d are lt)
    (only_one command.outputs path at k sorted here.0 (omega arith) differs is)))

-- ---- the outputs stay those of the command

same_path : (b : Bool) (file : Option ResultFile) (output : ResultOutput) →
    (cond b (with_one_more file output) output).path ≡ output.path
same_path true file output = refl
same_path false file output = refl

same_paths : (command : Command) (text : List ℕ) (file : Option ResultFile)
    (outputs : List ResultOutput) →
    map (λ (output : ResultOutput). output.path) (map (with_path command text file) outputs) ≡ map
    (λ (output : ResultOutput). output.path) outputs
same_paths command text file [] = refl
same_paths command text file (output ∷ outputs) =
    rw (
      same_path (reads_as command output.path text) file output,
      same_paths command text file
          outputs,
    ) refl

pub AreOutputsOf-matched : (command : Command) (text : List ℕ) (file : Option ResultFile)
    (outputs : List ResultOutput) → AreOutputsOf command outputs →
    AreOutputsOf command (map (with_path command text file) outputs)
AreOutputsOf-matched command text file outputs are = record
    { paths = same_paths command text file outputs ∙ are.paths }
