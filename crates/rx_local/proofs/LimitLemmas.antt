-- An outcome passes no limit exactly where it is within them.
use Rattle.std.proofs.Common.{◌≡◌, ◌≤◌, ℕ, Bool, true, false, cond, List, [], ◌∷◌, Option, None, Some, All, arith, length, ltb, refl}
use Rattle.std.specs.Option.{option_map, option_or}
use Rattle.std.proofs.lemmas.Bool.{le-ltb, ltb-false}
use Rattle.std.proofs.lemmas.List.Elements.{All-cons, All-head, All-nil, All-tail}
use Rattle.rx_world.specs.declared.outcomes.FileOut.{FileOut}
use Rattle.rx_world.specs.declared.outcomes.Outcome.{Outcome}
use Rattle.rx_world.specs.declared.refusals.OutputLimit.{OutputLimit}
use Rattle.rx_world.specs.declared.refusals.OutputLimit.TheVariants.{FileBytes}
use Rattle.rx_local.specs.declared.limits.Passed.{Passed}
use Rattle.rx_local.specs.Limits.{IsWithinLimits, counted_bytes, large_file, most_file_bytes, most_files_bytes, most_text_bytes, passed, passed_by, passed_by_file, passed_by_files, passed_by_text, passed_of}

-- ---- one limit

passed-case : (b : Bool) (over : Passed) → cond b (Some over) None ≡ None → b ≡ false
passed-case true over e = absurd (cc e)
passed-case false over e = refl

fits-by : (limit : OutputLimit) (most n : ℕ) → passed_by limit most n ≡ None → n ≤ most
fits-by limit most n e = ltb-false most n (passed-case (ltb most n) (passed limit n) e)

none-by : (limit : OutputLimit) (most n : ℕ) → n ≤ most → passed_by limit most n ≡ None
none-by limit most n h = rw (le-ltb most n h) refl

either-none : {A : Type 0} (a b : Option A) → option_or a b ≡ None → (a ≡ None) × (b ≡ None)
either-none None b e = (refl, e)
either-none (Some x) b e = absurd (cc e)

-- ---- the limit of one file

abbrev IsSmall : FileOut → Type 0
IsSmall file = length file.bytes ≤ most_file_bytes

small-case : (b : Bool) (file : FileOut) (rest : Option FileOut) → cond b (Some file) rest ≡ None → (b ≡ false) × (rest ≡ None)
small-case true file rest e = absurd (cc e)
small-case false file rest e = (refl, e)

none-large : (files : List FileOut) → large_file files ≡ None → All IsSmall files
none-large [] e = All-nil IsSmall
none-large (file ∷ files) e =
    let h = small-case (ltb most_file_bytes (length file.bytes)) file (large_file files) e in
    All-cons IsSmall file files (ltb-false most_file_bytes (length file.bytes) h.0) (none-large files h.1)

all-small : (files : List FileOut) → All IsSmall files → large_file files ≡ None
all-small [] h = refl
all-small (file ∷ files) h =
    rw (le-ltb most_file_bytes (length file.bytes) (All-head IsSmall file files h)) (all-small files (All-tail IsSmall file files h))

mapped-none : (found : Option FileOut) → option_map (λ (file : FileOut). passed FileBytes (length file.bytes)) found ≡ None → found ≡ None
mapped-none None e = refl
mapped-none (Some file) e = absurd (cc e)

-- ---- an outcome

pub passes-none : (outcome : Outcome) → passed_of outcome ≡ None → IsWithinLimits outcome
passes-none outcome e =
    let last = either-none _ _ e in
    let texts = either-none _ _ last.0 in
    let files = either-none _ _ texts.0 in
    let all = fits-by _ most_files_bytes (counted_bytes outcome.files) files.1 in
    record {
      each_file = none-large outcome.files (mapped-none (large_file outcome.files) files.0);
      all_files = omega (arith, all);
      stdout = fits-by _ most_text_bytes (length outcome.exit.stdout) texts.1;
      stderr = fits-by _ most_text_bytes (length outcome.exit.stderr) last.1;
    }

pub within-none : (outcome : Outcome) → IsWithinLimits outcome → passed_of outcome ≡ None
within-none outcome h =
    let file : passed_by_file outcome.files ≡ None = rw (all-small outcome.files h.each_file) refl in
    let files : passed_by_files outcome.files ≡ None = none-by _ most_files_bytes (counted_bytes outcome.files) (omega (arith, h.all_files)) in
    let stdout : passed_by_text outcome.exit.stdout ≡ None = none-by _ most_text_bytes (length outcome.exit.stdout) h.stdout in
    let stderr : passed_by_text outcome.exit.stderr ≡ None = none-by _ most_text_bytes (length outcome.exit.stderr) h.stderr in
    rw (file, files, stdout, stderr) refl
