-- The first fault of a reading is that of its result.
use Rattle.std.proofs.Common.{◌≡◌, ◌∙◌, ◌||◌, ℕ, zero, suc, Bool, true, false, List, [], ◌∷◌, Option, None, Some, ap, arith, map, nat_lt, refl, sym}
use Rattle.std.proofs.lemmas.Bool.Decides.{nat_tests}
use Rattle.std.specs.List.{list_any}
use Rattle.std.specs.Prelude.{is_none}
use Rattle.rx_messages.specs.declared.outputs.OutputFile.{OutputFile}
use Rattle.rx_messages.specs.declared.results.ActionResult.{ActionResult}
use Rattle.rx_world.specs.declared.commands.Command.{Command}
use Rattle.rx_world.specs.declared.remote_causes.ResultFault.TheVariants.{NoDigest, OutputAbsent, PathTwice, TooLarge}
use Rattle.rx_results.specs.declared.readings.Reading.{Reading}
use Rattle.rx_results.specs.ResultOutputs.{has_no_digest, is_absent, is_again, is_nameless, is_repeated, output_at, result_file_if, slot_at, times_of}
use Rattle.rx_results.specs.Readings.{reading_of, IsReading}
use Rattle.rx_results.specs.Results.{are_files_too_large, counted, fault_of, file_for, is_text_too_large, is_too_large, is_unnamed, times_at}
use Rattle.rx_results.proofs.ReadingLemmas.{files-are, outputs-are}

any_map : {A B : Type 0} (p : B → Bool) (q : A → Bool) (f : A → B) → ((x : A) → p (f x) ≡ q x) →
    (xs : List A) → list_any p (map f xs) ≡ list_any q xs
any_map p q f same [] = refl
any_map p q f same (x ∷ xs) = rw (same x, any_map p q f same xs) refl

again_is : (count : ℕ) → is_again (times_of count) ≡ nat_lt 1 count
again_is zero = refl
again_is (suc zero) = refl
again_is (suc (suc count)) = grind (arith, nat_tests)

absent_is : (file : Option OutputFile) → is_none (result_file_if file) ≡ is_none file
absent_is None = refl
absent_is (Some file) = refl

nameless_is : (file : Option OutputFile) → is_nameless (result_file_if file) ≡ is_unnamed file
nameless_is None = refl
nameless_is (Some file) = refl

module _ (command : Command) (result : ActionResult) (reading : Reading)
    (h : IsReading command result reading) where
  repeated : list_any is_repeated reading.outputs ≡ list_any
      (λ output. nat_lt 1 (times_at command result output)) (counted command result)
  repeated = rw (outputs-are command result reading h)
      (any_map is_repeated _ (output_at command result)
      (λ output. again_is (times_at command result output)) (counted command result))

  absent : list_any is_absent reading.outputs ≡ list_any
      (λ output. is_none (file_for command result output)) (counted command result)
  absent = rw (outputs-are command result reading h)
      (any_map is_absent _ (output_at command result)
      (λ output. absent_is (file_for command result output)) (counted command result))

  unnamed : list_any has_no_digest reading.outputs ≡ list_any
      (λ output. is_unnamed (file_for command result output)) (counted command result)
  unnamed = rw (outputs-are command result reading h)
      (any_map has_no_digest _ (output_at command result)
      (λ output. nameless_is (file_for command result output)) (counted command result))

  too_large : (are_files_too_large (map slot_at reading.outputs) ||
      (is_text_too_large reading.stdout || is_text_too_large reading.stderr)) ≡ is_too_large command
      result
  unfolding reading_of
  too_large =
      rw (
        files-are command result reading h,
        ap (λ (r : Reading). r.stdout) h.is,
        ap
            (λ (r : Reading). r.stderr) h.is,
      ) refl

  pub repeated-fault : list_any is_repeated reading.outputs ≡ true →
      Some PathTwice ≡ fault_of command result
  unfolding fault_of
  repeated-fault e = rw (sym repeated ∙ e) refl

  module _ (once : list_any is_repeated reading.outputs ≡ false) where
    pub absent-fault : list_any is_absent reading.outputs ≡ true →
        Some OutputAbsent ≡ fault_of command result
    unfolding fault_of
    absent-fault e = rw (sym repeated ∙ once, sym absent ∙ e) refl

    module _ (there : list_any is_absent reading.outputs ≡ false) where
      pub unnamed-fault : list_any has_no_digest reading.outputs ≡ true →
          Some NoDigest ≡ fault_of command result
      unfolding fault_of
      unnamed-fault e = rw (sym repeated ∙ once, sym absent ∙ there, sym unnamed ∙ e) refl

      module _ (named : list_any has_no_digest reading.outputs ≡ false) where
        pub large-fault : (are_files_too_large (map slot_at reading.outputs) ||
            (is_text_too_large reading.stdout || is_text_too_large reading.stderr)) ≡ true →
            Some TooLarge ≡ fault_of command result
        unfolding fault_of
        large-fault e = rw (
          sym repeated ∙ once,
          sym absent ∙ there,
          sym unnamed
              ∙ named,
          sym too_large ∙ e,
        ) refl

        pub no-fault : (are_files_too_large (map slot_at reading.outputs) ||
            (is_text_too_large reading.stdout || is_text_too_large reading.stderr)) ≡ false →
            None ≡ fault_of command result
        unfolding fault_of
        no-fault e = rw (
          sym repeated ∙ once,
          sym absent ∙ there,
          sym unnamed
              ∙ named,
          sym too_large ∙ e,
        ) refl
