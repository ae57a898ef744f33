-- Two lists of files that have the same files at some paths lack the same path first.
use Rattle.std.proofs.Common.{◌≡◌, ℕ, Bool, true, false, List, [], ◌∷◌, ◌++◌, refl, sym, ap, ◌∙◌, pos}
use Rattle.std.specs.Prelude.{Option, None, Some, IfSome, option_to_list, if◌then◌else◌, is_none}
use Rattle.std.specs.Str.{bytes_eq}
use Rattle.std.proofs.lemmas.Slice.Eq.{bytes_eq-Decides}
use Rattle.rx_world.specs.declared.attempts.Cause.{Cause}
use Rattle.rx_world.specs.declared.attempts.Cause.TheVariants.{BenchFault, InputChanged, NoMemory, OutputMissing, OutputTooLarge, SourceFault, Stopped}
use Rattle.rx_world.specs.declared.commands.Command.{Command}
use Rattle.rx_world.specs.declared.outcomes.Exit.{Exit}
use Rattle.rx_world.specs.declared.outcomes.FileOut.{FileOut}
use Rattle.rx_world.specs.declared.outcomes.Outcome.{Outcome}
use Rattle.rx_world.specs.declared.trees.Tree.{Tree}
use Rattle.rx_world.specs.Benches.{RunsTool}
use Rattle.rx_world.specs.Files.{cut_files, file_at}
use Rattle.rx_local.specs.Local.{IfMissing, LacksOutput, first_missing}

-- the file that is found at a path has it
found-path : (test : Bool) (path : List ℕ) (file found : FileOut) (rest : Option FileOut) → bytes_eq file.path path ≡ test → (rest ≡ Some found → found.path ≡ path) → (if test then Some file else rest) ≡ Some found → found.path ≡ path
found-path true path file found rest e further h =
    let same : file ≡ found = cc in
    ap (λ f. f.path) (sym same) ∙ (bytes_eq-Decides file.path path).0 e
found-path false path file found rest e further h = further h

path-file_at : (path : List ℕ) (files : List FileOut) (found : FileOut) → file_at path files ≡ Some found → found.path ≡ path
path-file_at path [] found h = absurd (cc)
path-file_at path (file ∷ files) found h =
    found-path (bytes_eq file.path path) path file found (file_at path files) refl (path-file_at path files found) h

-- the first file that is cut out is the one at its path
head-found : (found : Option FileOut) (path : List ℕ) (files : List FileOut) (head : FileOut) (cut tail : List FileOut) → file_at path files ≡ found → (cut ≡ head ∷ tail → file_at head.path files ≡ Some head) → option_to_list found ++ cut ≡ head ∷ tail → file_at head.path files ≡ Some head
head-found None path files head cut tail e further h = further h
head-found (Some file) path files head cut tail e further h =
    let same : file ≡ head = cc in
    ap (λ p. file_at p files) (ap (λ f. f.path) (sym same) ∙ path-file_at path files file e) ∙ e ∙ ap (λ f. Some f) same

head-cut_files : (paths : List (List ℕ)) (files : List FileOut) (head : FileOut) (tail : List FileOut) → cut_files paths files ≡ head ∷ tail → file_at head.path files ≡ Some head
head-cut_files [] files head tail h = absurd (cc)
head-cut_files (path ∷ paths) files head tail h =
    head-found (file_at path files) path files head (cut_files paths files) tail refl (head-cut_files paths files head tail) h

-- a file that one list has at a path and the other lacks there isn't the next of both
not-both : (path : List ℕ) (paths : List (List ℕ)) (xs ys : List FileOut) (file : FileOut) → file_at path xs ≡ None → file_at path ys ≡ Some file → cut_files paths xs ≡ file ∷ cut_files paths ys → ⊥
not-both path paths xs ys file lacks has h =
    let there : file_at path xs ≡ Some file = ap (λ p. file_at p xs) (sym (path-file_at path ys file has)) ∙ head-cut_files paths xs file (cut_files paths ys) h in
    cc

missing-found : (found other : Option FileOut) (path : List ℕ) (paths : List (List ℕ)) (xs ys : List FileOut) → file_at path xs ≡ found → file_at path ys ≡ other → (cut_files paths xs ≡ cut_files paths ys → first_missing paths xs ≡ first_missing paths ys) → option_to_list found ++ cut_files paths xs ≡ option_to_list other ++ cut_files paths ys → (if is_none found then Some path else first_missing paths xs) ≡ (if is_none other then Some path else first_missing paths ys)
missing-found None None path paths xs ys e k further h = refl
missing-found None (Some file) path paths xs ys e k further h = absurd (not-both path paths xs ys file e k h)
missing-found (Some file) None path paths xs ys e k further h = absurd (not-both path paths ys xs file k e (sym h))
missing-found (Some file) (Some other) path paths xs ys e k further h = further (cc)

pub first_missing-cut_files : (paths : List (List ℕ)) (xs ys : List FileOut) → cut_files paths xs ≡ cut_files paths ys → first_missing paths xs ≡ first_missing paths ys
first_missing-cut_files [] xs ys h = refl
first_missing-cut_files (path ∷ paths) xs ys h =
    missing-found (file_at path xs) (file_at path ys) path paths xs ys refl refl (first_missing-cut_files paths xs ys) h

-- after an honest run at code 0 the tree lacks what the tool doesn't make
lacks-run : (tool : Command → Tree → Outcome) (command : Command) (old new : Option Tree) (exit : Exit) (path : List ℕ) → RunsTool tool command old new exit → exit.code ≡ pos 0 → IfSome new (λ tree. first_missing command.outputs tree.files ≡ Some path) → IfSome old (λ tree. LacksOutput tool command tree path)
lacks-run tool command None new exit path run zero h = tt
lacks-run tool command (Some tree) None exit path run zero h = absurd run
lacks-run tool command (Some tree) (Some held) exit path run zero h = record {
  code_is = ap (λ e. e.code) (sym run.exit_is) ∙ zero;
  first = sym (first_missing-cut_files command.outputs held.files (tool command tree).files (run.files_are zero)) ∙ h;
}

pub missing-run : (tool : Command → Tree → Outcome) (command : Command) (old new : Option Tree) (exit : Exit) (honest : Type 0) (cause : Cause) → (honest → RunsTool tool command old new exit) → exit.code ≡ pos 0 → IfMissing cause (λ path. IfSome new (λ tree. first_missing command.outputs tree.files ≡ Some path)) → IfMissing cause (λ path. honest → IfSome old (λ tree. LacksOutput tool command tree path))
missing-run tool command old new exit honest (BenchFault step) run zero h = tt
missing-run tool command old new exit honest (OutputMissing path) run zero h = λ so. lacks-run tool command old new exit path (run so) zero h
missing-run tool command old new exit honest (InputChanged input) run zero h = tt
missing-run tool command old new exit honest (OutputTooLarge limit n) run zero h = tt
missing-run tool command old new exit honest (Stopped decision) run zero h = tt
missing-run tool command old new exit honest (SourceFault path) run zero h = tt
missing-run tool command old new exit honest NoMemory run zero h = tt
