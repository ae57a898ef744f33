-- Lists of outputs by what is asked of each: the first that has an answer, and the sum of sizes.
use Rattle.std.proofs.Common.{◌≡◌, ◌∙◌, ◌+◌, ◌<◌, ℕ, zero, suc, true, List, [], ◌∷◌, Option, None, Some, ap, arith, get_or, length, map, nat_lt, refl, sym, take}
use Rattle.std.proofs.lemmas.Bool.Decides.{nat_tests}
use Rattle.std.proofs.lemmas.List.{get_or-map, length-map, map-append, take_more}
use Rattle.std.proofs.lemmas.List.Elements.{filter_map-append}
use Rattle.std.proofs.lemmas.List.Folds.{list_any_at}
use Rattle.std.proofs.lemmas.List.Sums.{sum-map, sum_by-take-le, sum_by_more}
use Rattle.std.proofs.lemmas.Simd.{map-map}
use Rattle.std.proofs.Math.Bool.{or-true}
use Rattle.std.specs.List.{cons_option, filter_map, list_any}
use Rattle.std.specs.Prelude.{sum, sum_by}
use Rattle.rx_results.specs.declared.result_outputs.ResultOutput.{ResultOutput}
use Rattle.rx_results.specs.ResultOutputs.{slot_at}
use Rattle.rx_results.specs.Results.{are_files_too_large, first_of, most_file_bytes, most_files_bytes}
use Rattle.rx_results.specs.Slots.{file_size}

-- ---- the first that has an answer

pub first_found : {A B C : Type 0} (h : B → Option C) (f : A →
    B) (xs : List A) (i : ℕ) (d : A) (y : C) → i < length xs →
    filter_map h (map f (take i xs)) ≡ [] → h (f (get_or xs i d)) ≡ Some y →
    first_of (filter_map h (map f xs)) ≡ Some y
first_found h f [] i d y within none here = absurd (omega arith)
first_found h f (x ∷ xs) zero d y within none here = rw here refl
first_found {A} {B} {C} h f (x ∷ xs) (suc i) d y within none here =
    elim (h (f x)) as (λ o. cons_option o (filter_map h (map f (take i xs))) ≡ [] →
    first_of (cons_option o (filter_map h (map f xs))) ≡ Some y) [
      | None ↦ λ e. first_found h f xs i d y (omega arith) e here
      | Some z ↦ λ e. absurd (cc e)
    ] none

pub none_more : {A B C : Type 0} (h : B → Option C) (f : A → B) (xs : List A) (i : ℕ) (d : A) →
    i < length xs →
    filter_map h (map f (take i xs)) ≡ [] → h (f (get_or xs i d)) ≡ None →
    filter_map h (map f (take (i + 1) xs)) ≡ []
none_more h f xs i d within none here =
    rw (take_more xs i d within, map-append, filter_map-append, none, here) refl

-- ---- sizes

-- a file that is too large
pub one_too_large : (outputs : List ResultOutput) (i : ℕ) (d : ResultOutput) → i < length outputs →
    most_file_bytes < file_size (slot_at (get_or outputs i d)) →
    true ≡ are_files_too_large (map slot_at outputs)
one_too_large outputs i d within large =
    let size : file_size (get_or (map slot_at outputs) i (slot_at d)) ≡ file_size
    (slot_at (get_or outputs i d)) = ap file_size
    (get_or-map slot_at outputs i d (slot_at d) within) in
    let any : list_any (λ file. nat_lt most_file_bytes (file_size file)) (map slot_at outputs) ≡
    true =
    list_any_at (λ file. nat_lt most_file_bytes (file_size file)) (map slot_at outputs) i
    (slot_at d) (omega (arith, length-map outputs slot_at))
    (grind (arith, nat_tests, size, large)) in
    rw any refl

sizes_sum : (outputs : List ResultOutput) → sum (map file_size (map slot_at outputs)) ≡ sum_by
    (λ output. file_size (slot_at output)) outputs
sizes_sum outputs = rw (map-map file_size slot_at outputs)
    (sum-map (λ output. file_size (slot_at output)) outputs)

-- files that are too large together
pub all_too_large : (outputs : List ResultOutput) (i : ℕ) (d : ResultOutput) (total : ℕ) →
    i < length outputs → total ≡ sum (map file_size (map slot_at (take i outputs))) →
    most_files_bytes < total + file_size (slot_at (get_or outputs i d)) →
    true ≡ are_files_too_large (map slot_at outputs)
all_too_large outputs i d total within is large =
    let step = sum_by_more (λ output. file_size (slot_at output)) outputs i d within in
    let part = sum_by-take-le (λ output. file_size (slot_at output)) outputs (i + 1) in
    let before = is ∙ sizes_sum (take i outputs) in
    let whole = sizes_sum outputs in
    let over : nat_lt most_files_bytes (sum (map file_size (map slot_at outputs))) ≡ true = grind
    (arith, nat_tests, step, part, before, whole, large) in
    rw over (sym (or-true _))
