-- Where a result has no fault, and all texts have their digests, the outcome passes no limit.
use Rattle.std.proofs.Common.{◌≡◌, ◌∙◌, ◌≤◌, ◌==◌, ◌&&◌, ◌++◌, ℕ, Bool, true, false, cond, List, [], ◌∷◌, Option, None, Some, ap, arith, length, map, nat_lt, refl}
use Rattle.std.proofs.lemmas.Bool.{and_parts, or_parts}
use Rattle.std.proofs.lemmas.Bool.Decides.{nat_tests}
use Rattle.std.proofs.lemmas.List.{length-map}
use Rattle.std.proofs.lemmas.List.Elements.{All-cons, All-nil}
use Rattle.std.specs.List.{cons_option, filter_map, list_any}
use Rattle.std.specs.Prelude.{All, is_none, option_to_list, sum}
use Rattle.std.specs.Str.{bytes_eq}
use Rattle.rx_base.specs.Digests.{digest_of}
use Rattle.rx_base.specs.declared.digests.Digest.{Digest}
use Rattle.rx_messages.specs.declared.outputs.OutputFile.{OutputFile}
use Rattle.rx_messages.specs.declared.results.ActionResult.{ActionResult}
use Rattle.rx_world.specs.declared.commands.Command.{Command}
use Rattle.rx_world.specs.declared.outcomes.FileOut.{FileOut}
use Rattle.rx_world.specs.declared.remote_causes.ResultFault.{ResultFault}
use Rattle.rx_results.specs.declared.slots.DigestMismatch.{DigestMismatch}
use Rattle.rx_results.specs.declared.slots.Slot.{Slot}
use Rattle.rx_results.specs.Outcomes.{body_of, filled, files_with, outcome_of, texts_after, IsWithinLimits}
use Rattle.rx_results.specs.Readings.{IsFetched}
use Rattle.rx_results.specs.Results.{counted, fault_of, file_for, file_slots, first_of, is_text_too_large, is_unnamed, most_file_bytes, most_files_bytes, most_text_bytes, slot_of, stderr_slot, stdout_slot, wanted_for}
use Rattle.rx_results.specs.Slots.{file_size, mismatch_by, mismatch_of, text_size_by, wanted, wanted_by}
use Rattle.rx_results.proofs.OutcomeLemmas.{filled-length}

-- ---- tests

-- no fault at this test, and none behind it
unfaulted : (b : Bool) (fault : ResultFault) (others : Option ResultFault) →
    cond b (Some fault) others ≡ None → (b ≡ false) × (others ≡ None)
unfaulted true fault others e = absurd (cc e)
unfaulted false fault others e = (refl, e)

-- ---- one slot

-- the text that is fetched for a digest has its size
fetched-by : (digest : Digest) (texts : List (List ℕ)) (others : List Digest) (b : Bool) →
    (digest.size == 0) ≡ b →
    map digest_of texts ≡ option_to_list (cond b None (Some digest)) ++ others →
    (length (body_of (cond b None (Some digest)) [] texts) ≡ digest.size) ×
    (map digest_of (texts_after (cond b None (Some digest)) texts) ≡ others)
fetched-by digest texts others true is e = (grind (arith, nat_tests, is), e)
fetched-by digest [] others false is e = absurd (cc e)
fetched-by digest (text ∷ texts) others false is e =
    let same : digest_of text ≡ digest = cc e in
    (ap (λ (d : Digest). d.size) same, cc e)

fine-size : (inline : List ℕ) (digest : Digest) (b : Bool) →
    (bytes_eq (digest_of inline).hash digest.hash && (length inline == digest.size)) ≡ b →
    cond b None (Some (let both : DigestMismatch = record
    { expected = digest; got = digest_of inline } in both)) ≡ None → length inline ≡ digest.size
fine-size inline digest true is e = grind (
  arith,
  nat_tests,
  (and_parts (bytes_eq (digest_of inline).hash digest.hash) (length inline == digest.size) is).1,
)
fine-size inline digest false is e = absurd (cc e)

-- the bytes of a file are as many as its digest tells
file-by : (inline : List ℕ) (digest : Option Digest) (texts : List (List ℕ)) (others : List Digest)
    → mismatch_by inline digest ≡ None → is_none digest ≡ false →
    map digest_of texts ≡ option_to_list (wanted_by inline digest) ++ others →
    (length (body_of (wanted_by inline digest) inline texts) ≡ file_size
    (record { inline = inline; digest = digest }))
    × (map digest_of (texts_after (wanted_by inline digest) texts) ≡ others)
file-by [] None texts others fine named e = absurd (cc named)
file-by [] (Some digest) texts others fine named e = fetched-by digest texts others
    (digest.size == 0) refl e
file-by (byte ∷ bytes) None texts others fine named e = absurd (cc named)
file-by (byte ∷ bytes) (Some digest) texts others fine named e =
    (fine-size (byte ∷ bytes) digest _ refl fine, e)

-- the bytes of a text are as many as the result tells
text-by : (inline : List ℕ) (digest : Option Digest) (texts : List (List ℕ)) (others : List Digest)
    →
    map digest_of texts ≡ option_to_list (wanted_by inline digest) ++ others →
    (length (body_of (wanted_by inline digest) inline texts) ≡ text_size_by inline digest)
    × (map digest_of (texts_after (wanted_by inline digest) texts) ≡ others)
text-by [] None texts others e = (refl, e)
text-by [] (Some digest) texts others e = fetched-by digest texts others (digest.size == 0) refl e
text-by (byte ∷ bytes) digest texts others e = (refl, e)

-- ---- all slots

fine-cons : (mismatch : Option DigestMismatch) (others : List DigestMismatch) →
    cons_option mismatch others ≡ [] → (mismatch ≡ None) × (others ≡ [])
fine-cons None others e = (refl, e)
fine-cons (Some mismatch) others e = absurd (cc e)

first-none : {A : Type 0} (xs : List A) → first_of xs ≡ None → xs ≡ []
first-none [] e = refl
first-none (x ∷ xs) e = absurd (cc e)

file-sizes : (slots : List Slot) (texts : List (List ℕ)) → filter_map mismatch_of slots ≡ [] →
    list_any (λ (slot : Slot). is_none slot.digest) slots ≡ false →
    map digest_of texts ≡ wanted_for slots → map length (filled slots texts) ≡ map file_size slots
file-sizes [] texts fine named e = refl
file-sizes (slot ∷ slots) texts fine named e =
    let here = fine-cons (mismatch_of slot) (filter_map mismatch_of slots) fine in
    let names = or_parts (is_none slot.digest) (list_any (λ (slot : Slot). is_none slot.digest)
    slots) named in
    let one = file-by slot.inline slot.digest texts (wanted_for slots) here.0 names.0 e in
    rw (one.0, file-sizes slots (texts_after (wanted slot) texts) here.1 names.1 one.1) refl

slot-named : (file : Option OutputFile) → is_none file ≡ false → is_unnamed file ≡ false →
    is_none (slot_of file).digest ≡ false
slot-named None there named = absurd (cc there)
slot-named (Some file) there named = named

module _ (command : Command) (result : ActionResult) where
  slots-named : (outputs : List (List ℕ)) →
      list_any (λ output. is_none (file_for command result output)) outputs ≡ false →
      list_any (λ output. is_unnamed (file_for command result output)) outputs ≡ false →
      list_any (λ (slot : Slot). is_none slot.digest)
      (map (λ output. slot_of (file_for command result output)) outputs) ≡ false
  slots-named [] there named = refl
  slots-named (output ∷ outputs) there named =
      let files = or_parts (is_none (file_for command result output)) _ there in
      let names = or_parts (is_unnamed (file_for command result output)) _ named in
      rw (slot-named (file_for command result output) files.0 names.0)
      (slots-named outputs files.1 names.1)

  sizes-with : (outputs bodies : List (List ℕ)) → length bodies ≡ length outputs →
      map (λ (file : FileOut). length file.bytes) (files_with command result outputs bodies) ≡ map
      length bodies
  sizes-with [] [] long = refl
  sizes-with [] (body ∷ bodies) long = absurd (omega arith)
  sizes-with (output ∷ outputs) [] long = absurd (omega arith)
  sizes-with (output ∷ outputs) (body ∷ bodies) long = ap (λ rest. length body ∷ rest)
      (sizes-with outputs bodies (omega arith))

-- ---- all files

bounded : {A B : Type 0} (f : A → ℕ) (xs : List A) (g : B → ℕ) (ys : List B) (most : ℕ) →
    map f xs ≡ map g ys → list_any (λ y. nat_lt most (g y)) ys ≡ false →
    All (λ x. f x ≤ most) xs
bounded f [] g ys most e none = All-nil (λ x. f x ≤ most)
bounded f (x ∷ xs) g [] most e none = absurd (cc e)
bounded f (x ∷ xs) g (y ∷ ys) most e none =
    let tests = or_parts (nat_lt most (g y)) (list_any (λ y. nat_lt most (g y)) ys) none in
    let same : f x ≡ g y = cc e in
    All-cons (λ x. f x ≤ most) x xs (grind (arith, nat_tests, tests.0, same))
    (bounded f xs g ys most (cc e) tests.1)

-- ---- no fault

-- what the absence of a fault says of the files and of the texts
pub record Unfaulted (command : Command) (result : ActionResult) : Type 0 where
  there : list_any (λ output. is_none (file_for command result output)) (counted command result) ≡
      false
  named : list_any (λ output. is_unnamed (file_for command result output)) (counted command result)
      ≡ false
  each : list_any (λ slot. nat_lt most_file_bytes (file_size slot)) (file_slots command result) ≡
      false
  all : nat_lt most_files_bytes (sum (map file_size (file_slots command result))) ≡ false
  stdout : is_text_too_large (stdout_slot result) ≡ false
  stderr : is_text_too_large (stderr_slot result) ≡ false

small : (n most : ℕ) → nat_lt most n ≡ false → n ≤ most
small n most e = grind (arith, nat_tests)

module _ (command : Command) (result : ActionResult) where
  no-faults : fault_of command result ≡ None → Unfaulted command result
  unfolding fault_of
  no-faults e =
      let once = unfaulted _ _ _ e in
      let there = unfaulted _ _ _ once.1 in
      let named = unfaulted _ _ _ there.1 in
      let small = unfaulted _ _ _ named.1 in
      let files = or_parts _ _ small.0 in
      let sizes = or_parts _ _ files.0 in
      let texts = or_parts _ _ files.1 in
      record {
        there = there.0;
        named = named.0;
        each = sizes.0;
        all = sizes.1;
        stdout = texts.0;
        stderr = texts.1;
      }

  -- ---- the outcome

  pub outcome-limits : (texts : List (List ℕ)) → IsFetched command result texts →
      IsWithinLimits (outcome_of command result texts)
  outcome-limits texts h =
      let sound = no-faults h.sound in
      let stdout = text-by result.stdout_raw result.stdout_digest texts
      (option_to_list (wanted (stderr_slot result)) ++ wanted_for (file_slots command result))
      h.fetched in
      let behind : List (List ℕ) = texts_after (wanted (stdout_slot result)) texts in
      let stderr = text-by result.stderr_raw result.stderr_digest behind
      (wanted_for (file_slots command result)) stdout.1 in
      let left : List (List ℕ) = texts_after (wanted (stderr_slot result)) behind in
      let fine = first-none (filter_map mismatch_of (file_slots command result)) h.unspoiled in
      let named = slots-named command result (counted command result) sound.there sound.named in
      let bodies : List (List ℕ) = filled (file_slots command result) left in
      let long : length bodies ≡ length (counted command result) =
      filled-length (file_slots command result) left
      ∙ length-map (counted command result) (λ output. slot_of (file_for command result output)) in
      let sizes = sizes-with command result (counted command result) bodies long
      ∙ file-sizes (file_slots command result) left fine named stderr.1 in
      record {
        each_file = bounded (λ (file : FileOut). length file.bytes) _ file_size
            (file_slots command result) most_file_bytes sizes sound.each;
        all_files = rw sizes (small _ most_files_bytes sound.all);
        stdout = rw stdout.0 (small _ most_text_bytes sound.stdout);
        stderr = rw stderr.0 (small _ most_text_bytes sound.stderr);
      }
