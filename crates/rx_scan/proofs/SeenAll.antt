-- The files and the directories that were seen among some paths.
use Rattle.std.proofs.Common.{◌≡◌, ℕ, true, List, [], ◌∷◌, filter, filter_map, get_or, refl, sym, ap, subst, true≢false}
use Rattle.std.specs.Prelude.{All, None, Option, Some}
use Rattle.std.specs.Cmp.Lexicographic.{slice_cmp}
use Rattle.std.specs.List.{AllByRecursion, cons_option}
use Rattle.std.specs.Ordering.{nat_cmp}
use Rattle.std.proofs.lemmas.List.Elements.{All-from_recursion, Contains-get_or}
use Rattle.std.proofs.lemmas.List.Kept.{IsStrictlySortedBy-filter}
use Rattle.rx_base.specs.SortedPaths.{AreSorted}
use Rattle.rx_world.specs.declared.looks.Look.{Look}
use Rattle.rx_world.specs.declared.looks.Look.TheVariants.{Absent, Dir, File, Other}
use Rattle.rx_scan.specs.declared.seen_files.SeenFile.{SeenFile}
use Rattle.rx_scan.specs.Digests.{IsSeen}
use Rattle.rx_scan.specs.SeenDirs.{IsDirSeen, is_dir_seen}
use Rattle.rx_scan.specs.SeenFiles.{file_of_seen, file_seen}
use Rattle.rx_reach.specs.Sights.{seen_at}
use Rattle.rx_scan.proofs.PathSteps.{in-filter}

abbrev Sights : Type 0
Sights = List (List ℕ × Look)

seen-case : (sights : Sights) (path : List ℕ) (o : Option Look) (files : List SeenFile) → seen_at sights path ≡ o → AllByRecursion (IsSeen sights) files → AllByRecursion (IsSeen sights) (cons_option (file_of_seen path o) files)
seen-case sights path (Some (File stamp executable)) files e h = (e, h)
seen-case sights path (Some Absent) files e h = h
seen-case sights path (Some Dir) files e h = h
seen-case sights path (Some Other) files e h = h
seen-case sights path None files e h = h

each-seen : (sights : Sights) (paths : List (List ℕ)) → AllByRecursion (IsSeen sights) (filter_map (file_seen sights) paths)
each-seen sights [] = tt
each-seen sights (path ∷ paths) = seen-case sights path (seen_at sights path) (filter_map (file_seen sights) paths) refl (each-seen sights paths)

pub all-seen : (sights : Sights) (paths : List (List ℕ)) (files : List SeenFile) → files ≡ filter_map (file_seen sights) paths → All (IsSeen sights) files
all-seen sights paths files e = subst (λ (fs : List SeenFile). All (IsSeen sights) fs) (sym e) (All-from_recursion (IsSeen sights) (filter_map (file_seen sights) paths) (each-seen sights paths))

dir-look : (look : Look) → is_dir_seen (Some look) ≡ true → look ≡ Dir
dir-look Dir t = refl
dir-look Absent t = absurd (true≢false (sym t))
dir-look (File stamp executable) t = absurd (true≢false (sym t))
dir-look Other t = absurd (true≢false (sym t))

dir-seen : (o : Option Look) → is_dir_seen o ≡ true → o ≡ Some Dir
dir-seen None t = absurd (true≢false (sym t))
dir-seen (Some look) t = ap Some (dir-look look t)

pub all-dirs_seen : (sights : Sights) (paths dirs : List (List ℕ)) → dirs ≡ filter (λ path. is_dir_seen (seen_at sights path)) paths → All (IsDirSeen sights) dirs
all-dirs_seen sights paths dirs e =
    λ k d lt. dir-seen (seen_at sights (get_or dirs k d)) ((in-filter (λ path. is_dir_seen (seen_at sights path)) paths dirs e (get_or dirs k d)).0 (Contains-get_or dirs k d lt)).0

pub sorted-dirs : (sights : Sights) (paths dirs : List (List ℕ)) → dirs ≡ filter (λ path. is_dir_seen (seen_at sights path)) paths → AreSorted paths → AreSorted dirs
sorted-dirs sights paths dirs e h = subst AreSorted (sym e) (IsStrictlySortedBy-filter (slice_cmp nat_cmp) (λ path. is_dir_seen (seen_at sights path)) paths h)
