-- What is counted path by path is what the result has at each output.
use Rattle.std.proofs.Common.{◌≡◌, ◌∙◌, ◌+◌, ◌<◌, ℕ, zero, suc, Bool, true, false, cond, List, [], ◌∷◌, ◌++◌, Option, None, Some, ap, append-nil, arith, get_or, length, length-append, map, refl, sym, take}
use Rattle.std.proofs.lemmas.Bool.Decides.{nat_tests}
use Rattle.std.proofs.lemmas.List.{map-id, take_more}
use Rattle.std.proofs.lemmas.List.Elements.{filter-append}
use Rattle.std.proofs.lemmas.Simd.{map-map}
use Rattle.std.specs.Prelude.{filter}
use Rattle.rx_messages.specs.declared.outputs.OutputDirectory.{OutputDirectory}
use Rattle.rx_messages.specs.declared.outputs.OutputFile.{OutputFile}
use Rattle.rx_messages.specs.declared.outputs.OutputSymlink.{OutputSymlink}
use Rattle.rx_world.specs.declared.commands.Command.{Command}
use Rattle.rx_results.specs.declared.result_outputs.ResultOutput.{ResultOutput}
use Rattle.rx_results.specs.declared.result_outputs.ResultFile.{ResultFile}
use Rattle.rx_results.specs.declared.result_outputs.Times.{Times}
use Rattle.rx_results.specs.declared.result_outputs.Times.TheVariants.{Again, Never, Once}
use Rattle.rx_results.specs.ResultOutputs.{first_file, nothing_at, output_among, result_file, result_file_if, times_after, times_of, with_directories, with_files, with_links, with_one_more, with_others, with_path, AreOutputsOf}
use Rattle.rx_results.specs.Results.{directories_among, files_among, first_of, links_among, reads_as}

pub map_same : {A B : Type 0} (f g : A → B) → ((x : A) → f x ≡ g x) → (xs : List A) →
    map f xs ≡ map g xs
map_same f g same [] = refl
map_same f g same (x ∷ xs) = rw (same x) (ap (λ rest. g x ∷ rest) (map_same f g same xs))

-- ---- numbers of times

times_many : (count : ℕ) → times_of (suc (suc count)) ≡ Again
times_many count = grind (arith, nat_tests)

times_sum : (m n : ℕ) → times_after (times_of m) n ≡ times_of (m + n)
times_sum zero n = let sum : n ≡ zero + n = omega arith in ap times_of sum
times_sum (suc zero) n = let sum : n + 1 ≡ suc zero + n = omega arith in ap times_of sum
times_sum (suc (suc m)) n =
    let sum : suc (suc (m + n)) ≡ suc (suc m) + n = omega arith in
    rw times_many (rw (← sum) (rw times_many refl))

times_more : (times : Times) (count : ℕ) → times_after (times_after times count) 1 ≡ times_after
    times (count + 1)
times_more Never count = times_sum count 1
times_more Once count = times_sum (count + 1) 1
times_more Again count = refl

-- ---- the first file

first_again : (x y z : Option ResultFile) → first_file (first_file x y) z ≡ first_file x
    (first_file y z)
first_again None y z = refl
first_again (Some file) y z = refl

first_alone : (x : Option ResultFile) → first_file x None ≡ x
first_alone None = refl
first_alone (Some file) = refl

first_pushed : (files : List OutputFile) (file : OutputFile) →
    first_file (result_file_if (first_of files)) (Some (result_file file)) ≡ result_file_if
    (first_of (files ++ file ∷ []))
first_pushed [] file = refl
first_pushed (first ∷ files) file = refl

-- ---- one more at an output

one_file_more : (b : Bool) (output : ResultOutput) (files : List OutputFile) (file : OutputFile) →
    cond b (with_one_more (Some (result_file file))
    (record {
      path = output.path;
      times = times_after output.times (length files);
      file =
          first_file output.file (result_file_if (first_of files));
    }))
    (record {
      path = output.path;
      times = times_after output.times (length files);
      file = first_file
          output.file (result_file_if (first_of files));
    })
    ≡ record {
      path = output.path;
      times = times_after output.times (length (files ++ cond b (file ∷ []) []));
      file = first_file output.file (result_file_if (first_of (files ++ cond b (file ∷ []) [])));
    }
one_file_more true output files file =
    rw (times_more, first_again, first_pushed, length-append files (file ∷ [])) refl
one_file_more false output files file = rw (append-nil files) refl

file_more : (command : Command) (files : List OutputFile) (file : OutputFile)
    (output : ResultOutput) →
    with_path command file.path (Some (result_file file)) (with_files command files output) ≡
    with_files command (files ++ file ∷ []) output
file_more command files file output =
    rw (filter-append (λ (given : OutputFile). reads_as command output.path given.path) files
    (file ∷ []))
    (one_file_more (reads_as command output.path file.path) output
    (files_among command output.path files) file)

one_other_more : {A : Type 0} (b : Bool) (output : ResultOutput) (others : List A) (other : A) →
    cond b (with_one_more None (with_others (length others) output))
    (with_others (length others) output)
    ≡ with_others (length (others ++ cond b (other ∷ []) [])) output
one_other_more true output others other = rw (
  times_more,
  first_alone,
  length-append others
      (other ∷ []),
) refl
one_other_more false output others other = rw (append-nil others) refl

other_more : {A : Type 0} (command : Command) (path : A →
    List ℕ) (others : List A) (other : A) (output : ResultOutput) →
    with_path command (path other) None (with_others
    (length (filter (λ given. reads_as command output.path (path given)) others)) output)
    ≡ with_others (length (filter (λ given. reads_as command output.path (path given))
    (others ++ other ∷ []))) output
other_more command path others other output =
    rw (filter-append (λ given. reads_as command output.path (path given)) others (other ∷ []))
    (one_other_more (reads_as command output.path (path other)) output
    (filter (λ given. reads_as command output.path (path given)) others) other)

-- ---- one more at all outputs

pub files_more : (command : Command) (files : List OutputFile) (file : OutputFile)
    (outputs : List ResultOutput) →
    map (with_path command file.path (Some (result_file file)))
    (map (with_files command files) outputs) ≡ map (with_files command (files ++ file ∷ []))
    outputs
files_more command files file outputs =
    map-map (with_path command file.path (Some (result_file file))) (with_files command files)
    outputs ∙ map_same _ _ (file_more command files file) outputs

pub directories_more : (command : Command) (directories : List OutputDirectory) (i : ℕ)
    (d : OutputDirectory) (outputs : List ResultOutput) → i < length directories →
    map (with_path command (get_or directories i d).path None)
    (map (with_directories command (take i directories)) outputs) ≡ map
    (with_directories command (take (i + 1) directories)) outputs
directories_more command directories i d outputs within =
    let directory : OutputDirectory = get_or directories i d in
    rw (take_more directories i d within)
    (map-map (with_path command directory.path None) (with_directories command (take i directories))
    outputs
    ∙ map_same _ _ (other_more command (λ (given : OutputDirectory). given.path)
    (take i directories) directory) outputs)

pub links_more : (command : Command) (links : List OutputSymlink) (i : ℕ) (d : OutputSymlink)
    (outputs : List ResultOutput) → i < length links →
    map (with_path command (get_or links i d).path None)
    (map (with_links command (take i links)) outputs) ≡ map
    (with_links command (take (i + 1) links)) outputs
links_more command links i d outputs within =
    let link : OutputSymlink = get_or links i d in
    rw (take_more links i d within)
    (map-map (with_path command link.path None) (with_links command (take i links)) outputs
    ∙ map_same _ _ (other_more command (λ (given : OutputSymlink). given.path) (take i links) link)
    outputs)

-- ---- nothing more at all outputs

times_none : (times : Times) → times_after times 0 ≡ times
times_none Never = refl
times_none Once = refl
times_none Again = refl

none_more : (outputs : List ResultOutput) (more : ResultOutput → ResultOutput) →
    ((output : ResultOutput) → more output ≡ output) → outputs ≡ map more outputs
none_more outputs more same = sym (map_same more (λ (output : ResultOutput). output) same outputs
    ∙ map-id outputs)

pub no_files : (command : Command) (outputs : List ResultOutput) →
    outputs ≡ map (with_files command []) outputs
no_files command outputs = none_more outputs (with_files command [])
    (λ output. rw (times_none output.times, first_alone output.file) refl)

pub no_directories : (command : Command) (outputs : List ResultOutput) →
    outputs ≡ map (with_directories command []) outputs
no_directories command outputs = none_more outputs (with_directories command [])
    (λ output. rw (times_none output.times) refl)

pub no_links : (command : Command) (outputs : List ResultOutput) →
    outputs ≡ map (with_links command []) outputs
no_links command outputs = none_more outputs (with_links command [])
    (λ output. rw (times_none output.times) refl)

-- ---- all outputs

start_paths : (outputs : List (List ℕ)) → map (λ (output : ResultOutput). output.path)
    (map nothing_at outputs) ≡ outputs
start_paths [] = refl
start_paths (output ∷ outputs) = ap (λ (rest : List (List ℕ)). output ∷ rest) (start_paths outputs)

-- the outputs with nothing there are the command's outputs
pub AreOutputsOf-start : (command : Command) → AreOutputsOf command (map nothing_at command.outputs)
AreOutputsOf-start command = record { paths = start_paths command.outputs }

output_is : (command : Command) (files : List OutputFile) (directories : List OutputDirectory)
    (links : List OutputSymlink) (output : List ℕ) →
    with_links command links (with_directories command directories
    (with_files command files (nothing_at output))) ≡ output_among command files directories
    links output
output_is command files directories links output =
    let m : ℕ = length (files_among command output files) in
    let n : ℕ = length (directories_among command output directories) in
    let k : ℕ = length (links_among command output links) in
    let all : (m + n) + k ≡ m + (n + k) = omega arith in
    rw (times_sum m n, times_sum (m + n) k, all) refl

-- the outputs after all files, directories and links
pub all_matched : (command : Command) (files : List OutputFile) (directories : List OutputDirectory)
    (links : List OutputSymlink) (outputs : List (List ℕ)) →
    map (with_links command links) (map (with_directories command directories)
    (map (with_files command files) (map nothing_at outputs)))
    ≡ map (output_among command files directories links) outputs
all_matched command files directories links [] = refl
all_matched command files directories links (output ∷ outputs) =
    rw (output_is command files directories links output)
    (ap (λ (rest : List ResultOutput). output_among command files directories links output ∷
    rest)
    (all_matched command files directories links outputs))
