-- Files above others or above directories, and refusals of them.
use Rattle.std.proofs.Common.{◌≡◌, ◌≢◌, ℕ, ◌<◌, ◌||◌, ◌⊎◌, inl, inr, List, [], ◌∷◌, bytes_eq, length, map, get_or, sym, ap, ◌∙◌, arith}
use Rattle.std.specs.Prelude.{Err, IfErr, IfSome, None, Ok, OnOk, Option, Result, Some}
use Rattle.std.specs.Option.{option_or}
use Rattle.std.proofs.lemmas.List.{length-map}
use Rattle.std.proofs.lemmas.List.Quantifiers.{position-Some}
use Rattle.std.proofs.lemmas.Option.{slice_get-get_or}
use Rattle.rx_base.specs.Paths.{is_below}
use Rattle.rx_base.specs.SortedPaths.{first_at_or_above}
use Rattle.rx_world.specs.declared.commands.Command.{Command}
use Rattle.rx_scan.specs.declared.gather_fault.GatherFault.{GatherFault}
use Rattle.rx_scan.specs.declared.gather_fault.GatherFault.TheVariants.{Blocked, InputChanged, InputMissing, NoMemory, NotRemotable, SourceFault, TooLarge}
use Rattle.rx_scan.specs.declared.seen_files.SeenFile.{SeenFile}
use Rattle.rx_scan.specs.Ways.{BlamesWay, IsUpper, above_among, change_above, over_among, upper_among}

pub or_cases : (a b : Option ℕ) (at : ℕ) → option_or a b ≡ Some at → (a ≡ Some at) ⊎ (b ≡ Some at)
or_cases None b at e = inr e
or_cases (Some n) b at e = inl e

within : (files paths : List (List ℕ)) (at : ℕ) → upper_among files paths ≡ Some at → at < length files
within files [] at e = absurd (cc e)
within files (path ∷ paths) at e =
    elim (or_cases (above_among files path) (upper_among files paths) at e) [
      | inl here ↦ (position-Some (λ file. is_below path file) files at [] here).0
      | inr there ↦ within files paths at there
    ]

within-over : (files dirs : List (List ℕ)) (at : ℕ) → over_among files dirs ≡ Some at → at < length files
within-over files [] at e = absurd (cc e)
within-over files (dir ∷ dirs) at e =
    elim (or_cases (first_at_or_above files dir) (over_among files dirs) at e) [
      | inl here ↦ (position-Some (λ file. bytes_eq dir file || is_below dir file) files at [] here).0
      | inr there ↦ within-over files dirs at there
    ]

same-length : (files : List SeenFile) (paths : List (List ℕ)) (at : ℕ) → map (λ file. file.path) files ≡ paths → at < length paths → at < length files
same-length files paths at e lt = omega (arith, lt, ap length e, length-map files (λ (file : SeenFile). file.path))

pub upper-within : (files : List SeenFile) (paths : List (List ℕ)) (place : Option ℕ) → map (λ file. file.path) files ≡ paths → place ≡ upper_among paths paths → IfSome place (λ at. at < length files)
upper-within files paths None e is = tt
upper-within files paths (Some at) e is = same-length files paths at e (within paths paths at (sym is))

pub over-within : (files : List SeenFile) (paths dirs : List (List ℕ)) (place : Option ℕ) → map (λ file. file.path) files ≡ paths → place ≡ over_among paths dirs → IfSome place (λ at. at < length files)
over-within files paths dirs None e is = tt
over-within files paths dirs (Some at) e is = same-length files paths at e (within-over paths dirs at (sym is))

pub place-within : (files : List SeenFile) (place : Option ℕ) (at : ℕ) → place ≡ Some at → IfSome place (λ i. i < length files) → at < length files
place-within files None at e h = absurd (cc e)
place-within files (Some i) at e h = let same : i ≡ at = cc e in omega (arith, h, same)

pub is-upper : (files : List SeenFile) (place : Option ℕ) (at : ℕ) (file : SeenFile) (fault : GatherFault) → at < length files → file ≡ get_or files at file → place ≡ Some at → fault ≡ change_above file → IsUpper files place fault
is-upper files place at file fault lt e is why = (at, file, is, slice_get-get_or files at file lt ∙ ap Some (sym e), why)

-- the first of two places is told before the second
pub upper-first : (files : List SeenFile) (first second : Option ℕ) (fault : GatherFault) → IsUpper files first fault → IsUpper files (option_or first second) fault
upper-first files first second fault u = (u.0, u.1, ap (λ o. option_or o second) u.2, u.3, u.4)

pub on-ok : (r : Result (Unit {0}) GatherFault) (P : Type 0) → P → OnOk r P
on-ok (Ok done) P h = h
on-ok (Err fault) P h = tt

pub upper-then : (files : List SeenFile) (first second : Option ℕ) (r : Result (Unit {0}) GatherFault) → first ≡ None → IfErr r (λ fault. fault ≢ NoMemory → IsUpper files second fault) → IfErr r (λ fault. fault ≢ NoMemory → IsUpper files (option_or first second) fault)
upper-then files first second r none h = rw none h

-- a file above another or above a directory is told before what stands in the way
pub blames-upper : (command : Command) (files : List SeenFile) (paths dirs : List (List ℕ)) (fault : GatherFault) → (fault ≢ NoMemory → IsUpper files (option_or (upper_among paths paths) (over_among paths dirs)) fault) → BlamesWay command files paths dirs fault
blames-upper command files paths dirs (InputChanged change) h = h (λ e. cc e)
blames-upper command files paths dirs (InputMissing path) h = let u = h (λ e. cc e) in absurd (cc u.4)
blames-upper command files paths dirs (SourceFault path) h = let u = h (λ e. cc e) in absurd (cc u.4)
blames-upper command files paths dirs (TooLarge limit n path) h = let u = h (λ e. cc e) in absurd (cc u.4)
blames-upper command files paths dirs (NotRemotable cause) h = let u = h (λ e. cc e) in absurd (cc u.4)
blames-upper command files paths dirs (Blocked path) h = let u = h (λ e. cc e) in absurd (cc u.4)
blames-upper command files paths dirs NoMemory h = tt
