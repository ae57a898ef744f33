-- Where a result agrees with an outcome, none of its contents has another digest than theirs. And
-- where the fetched texts are the blobs of their digests, the outcome that comes of it is the tool's.
use Rattle.std.proofs.Common.{◌≡◌, ◌≢◌, ◌∙◌, ◌++◌, ◌==◌, ℕ, Bool, true, false, cond, List, [], ◌∷◌, Option, None, Some, ℤ, ap, arith, length, map, refl, subst, sym}
use Rattle.std.specs.Prelude.{All, option_to_list}
use Rattle.std.proofs.lemmas.Bool.Decides.{Decides-eqb}
use Rattle.std.proofs.lemmas.List.Elements.{All-head, All-tail}
use Rattle.std.proofs.lemmas.Slice.Eq.{bytes_eq-Decides}
use Rattle.std.specs.List.{filter_map}
use Rattle.rx_base.specs.Digests.{digest_of}
use Rattle.rx_base.specs.declared.digests.Digest.{Digest}
use Rattle.rx_messages.specs.declared.results.ActionResult.{ActionResult}
use Rattle.rx_world.specs.Files.{cut_files, file_at}
use Rattle.rx_world.specs.Outcomes.{IsClean}
use Rattle.rx_world.specs.declared.commands.Command.{Command}
use Rattle.rx_world.specs.declared.outcomes.FileOut.{FileOut}
use Rattle.rx_world.specs.declared.outcomes.Outcome.{Outcome}
use Rattle.rx_world.specs.declared.trees.Tree.{Tree}
use Rattle.rx_results.specs.declared.slots.Slot.{Slot}
use Rattle.rx_results.specs.Agreement.{bytes_by, bytes_of, Agrees, AgreesAt}
use Rattle.rx_results.specs.Outcomes.{body_of, filled, files_with, is_executable, outcome_of, outcome_with, texts_after}
use Rattle.rx_results.specs.Results.{counted, file_for, first_of, outputs_at, slot_of, slots_of, spoiled_of, wanted_for, wanted_of}
use Rattle.rx_results.specs.Slots.{differing, mismatch_by, mismatch_of, wanted, wanted_by}
use Rattle.rx_results.proofs.OutcomeLemmas.{none_counted}

-- ---- the bytes of slots

filled-blobs : (blob : Digest → List ℕ) (slots : List Slot) →
    filled slots (map blob (wanted_for slots)) ≡ map (bytes_of blob) slots
filled-blobs blob [] = refl
filled-blobs blob (slot ∷ slots) =
    let others : List Digest = wanted_for slots in
    elim (wanted slot) as (λ w. body_of w slot.inline (map blob (option_to_list w ++ others)) ∷
    filled slots (texts_after w (map blob (option_to_list w ++ others)))
    ≡ bytes_by blob w slot.inline ∷ map (bytes_of blob) slots) [
      | None ↦ ap (λ rest. slot.inline ∷ rest) (filled-blobs blob slots)
      | Some digest ↦ ap (λ rest. blob digest ∷ rest) (filled-blobs blob slots)
    ]

-- ---- one output

no_bytes : (bytes : List ℕ) → length bytes ≡ 0 → [] ≡ bytes
no_bytes [] e = refl
no_bytes (byte ∷ bytes) e = absurd (omega arith)

-- a digest that needs no fetch is that of no bytes
needless : (blob : Digest → List ℕ) (digest : Digest) (b : Bool) → (digest.size == 0) ≡ b →
    digest_of (blob digest) ≡ digest → bytes_by blob (cond b None (Some digest)) [] ≡ blob digest
needless blob digest true is own =
    let size : length (blob digest) ≡ digest.size = ap (λ (d : Digest). d.size) own in
    no_bytes (blob digest) (grind (arith, size, is))
needless blob digest false is own = refl

slot-bytes : (blob : Digest → List ℕ) (contents : List ℕ) (named : Option Digest) (digest : Digest)
    → named ≡ Some digest → digest_of (blob digest) ≡ digest →
    (contents ≢ [] → contents ≡ blob digest) →
    bytes_by blob (wanted_by contents named) contents ≡ blob digest
slot-bytes blob [] named digest is own inline = rw is
    (needless blob digest (digest.size == 0) refl own)
slot-bytes blob (byte ∷ bytes) named digest is own inline = inline (λ e. cc e)

abbrev file_made : Command → ActionResult → (Digest → List ℕ) → List ℕ → FileOut
file_made command result blob output = record {
  path = output;
  bytes = bytes_of blob (slot_of (file_for command result output));
  executable = is_executable (file_for command result output);
}

made-at : (blob : Digest → List ℕ) (command : Command) (outcome : Outcome) (result : ActionResult)
    (output : List ℕ) → AgreesAt blob command outcome result output →
    file_at output outcome.files ≡ Some (file_made command result blob output)
made-at blob command outcome result output a =
    let bytes = slot-bytes blob a.file.contents a.file.digest a.digest a.named a.own a.inline in
    rw a.there (a.made ∙ ap (λ (bytes : List ℕ). let file : FileOut = record
    { path = output; bytes = bytes; executable = a.file.is_executable } in Some file)
    (sym bytes))

-- ---- all outputs

files-agree : (blob : Digest → List ℕ) (command : Command) (outcome : Outcome)
    (result : ActionResult) (outputs : List (List ℕ)) →
    All (AgreesAt blob command outcome result) outputs →
    files_with command result outputs (map (bytes_of blob)
    (map (λ output. slot_of (file_for command result output)) outputs)) ≡ cut_files outputs
    outcome.files
files-agree blob command outcome result [] all = refl
files-agree blob command outcome result (output ∷ outputs) all =
    rw (made-at blob command outcome result output (All-head (AgreesAt blob command outcome result)
    output outputs all))
    (ap (λ (rest : List FileOut). file_made command result blob output ∷ rest)
    (files-agree blob command outcome result outputs
    (All-tail (AgreesAt blob command outcome result) output outputs all)))

-- ---- the outcome

pub agrees-clean : (tool : Command → Tree → Outcome) (command : Command) (tree : Tree)
    (blob : Digest → List ℕ) (result : ActionResult) →
    Agrees blob command (tool command tree) result →
    IsClean tool command tree (outcome_of command result (map blob (wanted_of command result)))
agrees-clean tool command tree blob result a =
    subst (λ (bodies : List (List ℕ)). IsClean tool command tree
    (outcome_with command result bodies)) (sym (filled-blobs blob (slots_of command result)))
    (let files = files-agree blob command (tool command tree) result (counted command result)
    a.files in
    record {
      exit_is = rw (a.code_is, a.stdout_is, a.stderr_is) refl;
      files_are = λ zero. files ∙ ap (λ (code : ℤ). cut_files (outputs_at command code)
          (tool command tree).files) zero;
      none = λ differs. files ∙ ap (λ (outputs : List (List ℕ)). cut_files outputs
          (tool command tree).files) (none_counted command result.exit_code differs);
    })

-- ---- contents have their digests

same-digest : (digest : Digest) → differing digest digest ≡ None
same-digest digest = rw (
  (bytes_eq-Decides digest.hash digest.hash).1 refl,
  (Decides-eqb digest.size digest.size).1 refl,
) refl

fine-by : (blob : Digest → List ℕ) (contents : List ℕ) (named : Option Digest) (digest : Digest) →
    named ≡ Some digest → digest_of (blob digest) ≡ digest →
    (contents ≢ [] → contents ≡ blob digest) → mismatch_by contents named ≡ None
fine-by blob [] named digest is own inline = refl
fine-by blob (byte ∷ bytes) named digest is own inline =
    let all : byte ∷ bytes ≡ blob digest = inline (λ e. cc e) in
    let got : digest_of (byte ∷ bytes) ≡ digest = ap digest_of all ∙ own in
    rw is (subst (λ (d : Digest). differing digest d ≡ None) (sym got) (same-digest digest))

fine-at : (blob : Digest → List ℕ) (command : Command) (outcome : Outcome) (result : ActionResult)
    (output : List ℕ) → AgreesAt blob command outcome result output →
    mismatch_of (slot_of (file_for command result output)) ≡ None
fine-at blob command outcome result output a = rw a.there
    (fine-by blob a.file.contents a.file.digest a.digest a.named a.own a.inline)

none-spoiled : (blob : Digest → List ℕ) (command : Command) (outcome : Outcome)
    (result : ActionResult) (outputs : List (List ℕ)) →
    All (AgreesAt blob command outcome result) outputs →
    filter_map mismatch_of (map (λ output. slot_of (file_for command result output)) outputs) ≡
    []
none-spoiled blob command outcome result [] all = refl
none-spoiled blob command outcome result (output ∷ outputs) all =
    rw (fine-at blob command outcome result output (All-head (AgreesAt blob command outcome result)
    output outputs all))
    (none-spoiled blob command outcome result outputs
    (All-tail (AgreesAt blob command outcome result) output outputs all))

pub agrees-unspoiled : (blob : Digest → List ℕ) (command : Command) (outcome : Outcome)
    (result : ActionResult) → Agrees blob command outcome result →
    spoiled_of command result ≡ None
agrees-unspoiled blob command outcome result a = ap first_of
    (none-spoiled blob command outcome result (counted command result) a.files)
