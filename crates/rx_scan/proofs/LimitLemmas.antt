-- How many bytes files have together, none of which is too large.
use Rattle.std.proofs.Common.{◌≡◌, ◌<◌, ◌≤◌, ◌^◌, Bool, true, false, cond, List, [], ◌∷◌, Option, None, Some, All, length, ltb, refl, arith}
use Rattle.std.proofs.lemmas.Bool.{ltb-false}
use Rattle.std.proofs.lemmas.List.Elements.{All-cons, All-nil}
use Rattle.std.proofs.lemmas.List.Sums.{sum_by-le}
use Rattle.rx_scan.specs.declared.seen_files.SeenFile.{SeenFile}
use Rattle.rx_scan.specs.Limits.{large_file, total_size}
use Rattle.rx_reach.specs.Searches.{most_file_bytes}

abbrev pub IsSmall : SeenFile → Type 0
IsSmall file = file.stamp.size ≤ most_file_bytes

pub sum_fits : (files : List SeenFile) → length files ≤ 50000 → All IsSmall files → total_size files < 2 ^ 64
sum_fits files few small = omega (arith, few, sum_by-le (λ (file : SeenFile). file.stamp.size) most_file_bytes files small)

small_case : (b : Bool) (file : SeenFile) (rest : Option SeenFile) → cond b (Some file) rest ≡ None → (b ≡ false) × (rest ≡ None)
small_case true file rest e = absurd (cc e)
small_case false file rest e = (refl, e)

pub none_large : (files : List SeenFile) → large_file files ≡ None → All IsSmall files
none_large [] e = All-nil IsSmall
none_large (file ∷ files) e =
    let h = small_case (ltb most_file_bytes file.stamp.size) file (large_file files) e in
    All-cons IsSmall file files (ltb-false most_file_bytes file.stamp.size h.0) (none_large files h.1)
