-- The refusals of a scan.
use Rattle.std.proofs.Common.{◌≡◌, ◌≢◌, ℕ, ◌<◌, ◌≤◌, ◌⊎◌, inl, inr, List, [], ◌∷◌, ◌++◌, cond, filter, filter_map, length, map, refl, sym, ap, subst, arith}
use Rattle.std.specs.Prelude.{All, Contains, Err, None, Ok, Option, Some, ◌↔◌}
use Rattle.std.proofs.lemmas.Bool.{lt-ltb}
use Rattle.std.proofs.lemmas.List.{length-map}
use Rattle.std.specs.List.{AllByRecursion}
use Rattle.std.proofs.lemmas.List.Elements.{All-from_recursion, All-weaker, recursion_from_All}
use Rattle.rx_base.specs.SortedPaths.{AreSorted}
use Rattle.rx_world.specs.declared.input_files.InputFile.{InputFile}
use Rattle.rx_world.specs.declared.looks.Look.{Look}
use Rattle.rx_world.specs.declared.looks.Look.TheVariants.{File}
use Rattle.rx_world.specs.declared.refusals.Limit.{Limit}
use Rattle.rx_world.specs.declared.refusals.Limit.TheVariants.{ScanFiles}
use Rattle.rx_world.specs.declared.sources.Sources as sources
use Rattle.rx_world.specs.declared.world.World as world
use Rattle.rx_reach.specs.declared.faults.SightFault.{SightFault}
use Rattle.rx_reach.specs.declared.faults.SightFault.TheVariants.{InputChanged as Changed, NoMemory as OutOfMemory, SourceFault as Lost}
use Rattle.rx_scan.specs.declared.gather_fault.GatherFault.{GatherFault}
use Rattle.rx_scan.specs.declared.gather_fault.GatherFault.TheVariants.{Blocked, InputChanged, InputMissing, NoMemory, NotRemotable, SourceFault, TooLarge}
use Rattle.rx_scan.specs.declared.inputs.Declared.{Declared}
use Rattle.rx_scan.specs.declared.limits.Extent.TheVariants.{Scan}
use Rattle.rx_reach.specs.declared.reach.Reached.{Reached}
use Rattle.rx_scan.specs.declared.scanned.ScanPaths.{ScanPaths}
use Rattle.rx_reach.specs.declared.searches.Search.{Search}
use Rattle.rx_scan.specs.declared.seen_files.SeenFile.{SeenFile}
use Rattle.rx_scan.specs.declared.words.WordMeaning.{WordMeaning}
use Rattle.rx_reach.specs.Explored.{AreSeen}
use Rattle.rx_reach.specs.FileTables.{paths_of}
use Rattle.rx_scan.specs.Digests.{IsSeen, seen_file}
use Rattle.rx_scan.specs.GatherFault.{fault_of}
use Rattle.rx_scan.specs.Inputs.{BlamesInputs, HasTooMany, IsDeclared, IsDeclaredBy, IsTooMany, OnlyTooMany, first_missing}
use Rattle.rx_scan.specs.Limits.{HasPassed, check_of, large_file, sizes_of}
use Rattle.rx_scan.specs.Lists.{BlamesSight, Fails, HasView, Learns, Shown, Stretch, stretch}
use Rattle.rx_reach.specs.Reach.{IsReached}
use Rattle.rx_scan.specs.Scanned.{BlamesScan, IsPathsOf, IsReachOf, IsScanListBy, IsScanOf, IsScannedBy}
use Rattle.rx_reach.specs.Scans.{Ends, Scans}
use Rattle.rx_reach.specs.Scenes.{AreRight, Scene}
use Rattle.rx_scan.specs.SeenDirs.{is_dir_seen}
use Rattle.rx_scan.specs.SeenFiles.{file_seen}
use Rattle.rx_reach.specs.Sights.{AreKnownAt, seen_at}
use Rattle.rx_scan.proofs.DeclaredSteps.{many-so}
use Rattle.rx_scan.proofs.Learning.{fails-after, fails-always, fails-ends, fails-join, fails-so, learns-join, learns-scans, learns-so}
use Rattle.rx_scan.proofs.ScannedSteps.{list-of-scan, paths-of, scan-of}
use Rattle.rx_reach.proofs.SightLemmas.{blames-later}
use Rattle.rx_scan.proofs.WholeTaken.{only-large, seen-sorted}

abbrev Sights : Type 0
Sights = List (List ℕ × Look)

-- ---- by cases

of-inputs : (inputs : List (List ℕ)) (meaning : WordMeaning) (fault : GatherFault) (st : Stretch) → BlamesInputs inputs meaning.roots fault st → BlamesScan inputs meaning fault st
of-inputs inputs meaning (TooLarge limit n path) st h =
    (inl h.0, h.1, λ scene shows. let k = h.2 scene shows in (k.0, inl (h.0, many-so (IsDeclared scene inputs meaning.roots) (IsScannedBy scene inputs meaning) (λ p d. inl d) k.1)))
of-inputs inputs meaning (InputMissing path) st h = h
of-inputs inputs meaning (SourceFault path) st h = h
of-inputs inputs meaning (InputChanged change) st h = h
of-inputs inputs meaning (NotRemotable cause) st h = absurd h
of-inputs inputs meaning (Blocked path) st h = absurd h
of-inputs inputs meaning NoMemory st h = tt

of-sight : (inputs : List (List ℕ)) (meaning : WordMeaning) (fault : SightFault) (st : Stretch) → BlamesSight fault st → BlamesScan inputs meaning (fault_of fault) st
of-sight inputs meaning (Lost path) st h = h
of-sight inputs meaning (Changed change) st h = h
of-sight inputs meaning OutOfMemory st h = tt

-- more reached files than a scan may have, which were seen
passed-many : (view : Sights) (files : List InputFile) → AreSorted (paths_of files) → AreSeen view files → 20000 < length files → HasPassed Scan view ScanFiles 20001 None
passed-many view files sorted seen many =
    let all : List SeenFile = map seen_file files in
    let count : length all ≡ length files = length-map files seen_file in (
      all,
      subst AreSorted (same files) sorted,
      All-from_recursion (IsSeen view) all (each files (recursion_from_All (λ (file : InputFile). seen_at view file.path ≡ Some (File file.stamp file.executable)) files seen)),
      ap (λ b. cond b (Err (TooLarge ScanFiles 20001 None)) (sizes_of Scan all (large_file all))) (lt-ltb 20000 (length all) (omega (arith, many, count))),
    )
  where
    same : (fs : List InputFile) → paths_of fs ≡ map (λ (file : SeenFile). file.path) (map seen_file fs)
    same [] = refl
    same (f ∷ fs) = ap (λ ps. f.path ∷ ps) (same fs)

    each : (fs : List InputFile) → AllByRecursion (λ (file : InputFile). seen_at view file.path ≡ Some (File file.stamp file.executable)) fs → AllByRecursion (IsSeen view) (map seen_file fs)
    each [] a = tt
    each (f ∷ fs) a = (a.0, each fs a.1)

limited : (view : Sights) (limit : Limit) (n : ℕ) (path : Option (List ℕ)) → IsTooMany limit n path → HasPassed Scan view ScanFiles 20001 None → HasPassed Scan view limit n path
limited view limit n path is h =
    subst (λ (l : Limit). HasPassed Scan view l n path) (sym is.0)
    (subst (λ (m : ℕ). HasPassed Scan view ScanFiles m path) (sym is.1) (subst (λ (p : Option (List ℕ)). HasPassed Scan view ScanFiles 20001 p) (sym is.2) h))

of-many : (inputs : List (List ℕ)) (meaning : WordMeaning) (fault : GatherFault) (Over : Type 0) (st : Stretch) → HasView st → (Over → HasPassed Scan st.new ScanFiles 20001 None)
    → Shown st (λ scene. first_missing scene inputs ≡ None) → Shown st (λ scene. Over → HasTooMany (IsScannedBy scene inputs meaning)) → OnlyTooMany Over fault → BlamesScan inputs meaning fault st
of-many inputs meaning (TooLarge limit n path) Over st view passed there f h = (inr (limited st.new limit n path h.0 (passed h.1)), view, λ scene shows. (there scene shows, inl (h.0, f scene shows h.1)))
of-many inputs meaning (InputMissing path) Over st view passed there f h = absurd h
of-many inputs meaning (SourceFault path) Over st view passed there f h = absurd h
of-many inputs meaning (InputChanged change) Over st view passed there f h = absurd h
of-many inputs meaning (NotRemotable cause) Over st view passed there f h = absurd h
of-many inputs meaning (Blocked path) Over st view passed there f h = absurd h
of-many inputs meaning NoMemory Over st view passed there f h = tt

of-limits : (inputs : List (List ℕ)) (meaning : WordMeaning) (files : List SeenFile) (fault : GatherFault) (st : Stretch) → (fault ≢ NoMemory → check_of Scan files ≡ Err fault)
    → HasView st → AreSorted (map (λ file. file.path) files) → All (IsSeen st.new) files
    → Shown st (λ scene. (first_missing scene inputs ≡ None) × IsScanListBy scene inputs meaning files) → BlamesScan inputs meaning fault st
of-limits inputs meaning files (TooLarge limit n path) st h view sorted seen f =
    (inr (files, sorted, seen, h (λ e. cc e)), view, λ scene shows. let k = f scene shows in (k.0, inr (files, k.1, h (λ e. cc e))))
of-limits inputs meaning files (InputMissing path) st h view sorted seen f = absurd (only-large Scan files (InputMissing path) (h (λ e. cc e)))
of-limits inputs meaning files (SourceFault path) st h view sorted seen f = absurd (only-large Scan files (SourceFault path) (h (λ e. cc e)))
of-limits inputs meaning files (InputChanged change) st h view sorted seen f = absurd (only-large Scan files (InputChanged change) (h (λ e. cc e)))
of-limits inputs meaning files (NotRemotable cause) st h view sorted seen f = absurd (only-large Scan files (NotRemotable cause) (h (λ e. cc e)))
of-limits inputs meaning files (Blocked path) st h view sorted seen f = absurd (only-large Scan files (Blocked path) (h (λ e. cc e)))
of-limits inputs meaning files NoMemory st h view sorted seen f = tt

all-paths : (P : List ℕ → Type 0) (files : List InputFile) → All (λ file. P file.path) files → All P (paths_of files)
all-paths P files h = All-from_recursion P (paths_of files) (each files (recursion_from_All (λ file. P file.path) files h))
  where
    each : (fs : List InputFile) → AllByRecursion (λ file. P file.path) fs → AllByRecursion P (paths_of fs)
    each [] a = tt
    each (f ∷ fs) a = (a.0, each fs a.1)

-- more reached files than a scan may have
reached-many : (scene : Scene) (inputs : List (List ℕ)) (meaning : WordMeaning) (o : Option Search) (reached : Reached) → meaning.search ≡ o → IsReachOf scene o reached → AreSorted (paths_of reached.files) → 20000 < length reached.files → HasTooMany (IsScannedBy scene inputs meaning)
reached-many scene inputs meaning None reached e h sorted many = absurd (omega (arith, many, ap length h.0))
reached-many scene inputs meaning (Some search) reached e h sorted many = (
  paths_of reached.files,
  sorted,
  omega (arith, many, length-map reached.files (λ (file : InputFile). file.path)),
  all-paths (IsScannedBy scene inputs meaning) reached.files (All-weaker (λ file. IsReached scene search file.path) (λ file. IsScannedBy scene inputs meaning file.path) (λ file r. inr (search, e, r)) reached.files h.reaches),
)

-- ---- over the steps

-- what is declared and what is reached
pub record IsBoth (scene : Scene) (inputs : List (List ℕ)) (meaning : WordMeaning) (declared : Declared) (reached : Reached) : Type 0 where
  pub declares : IsDeclaredBy scene inputs meaning.roots declared
  pub reaches : IsReachOf scene meaning.search reached

-- the paths of a scan, in what was seen
pub record IsLookedAt (scene : Scene) (inputs : List (List ℕ)) (meaning : WordMeaning) (paths : ScanPaths) (sights : Sights) : Type 0 where
  pub paths_are : IsPathsOf scene inputs meaning paths
  pub right : AreRight scene sights

module _ {T W : Type 0} (w : world.Ghosts W) (s : sources.Ghosts T W) where
  pub inputs-refused : (a b : T) (old new : Sights) (inputs : List (List ℕ)) (meaning : WordMeaning) (fault : GatherFault) → Fails w s a b old new (BlamesInputs inputs meaning.roots fault) → Fails w s a b old new (BlamesScan inputs meaning fault)
  inputs-refused a b old new inputs meaning fault f = fails-so w s a b old new (BlamesInputs inputs meaning.roots fault) (BlamesScan inputs meaning fault) f (λ st h. of-inputs inputs meaning fault st h)

  pub scan-ended : (a b c : T) (old mid new : Sights) (P : Scene → Type 0) (inputs : List (List ℕ)) (meaning : WordMeaning) (fault : SightFault) → Learns w s a b old mid P → Ends w s b c mid fault
      → Fails w s a c old new (BlamesScan inputs meaning (fault_of fault))
  scan-ended a b c old mid new P inputs meaning fault l e =
      fails-join w s a b c old mid new P (BlamesSight fault) (BlamesScan inputs meaning (fault_of fault)) l (fails-ends w s b c mid new fault e)
      (λ xs ys ls ms le n p cause. of-sight inputs meaning fault (stretch old new (s.faults a) (s.faults c) (xs ++ ys) (ls ++ ms)) (blames-later old mid xs ys (s.faults a) (s.faults b) (s.faults c) fault n le cause))

  pub scan-no_memory : (a b : T) (old mid new : Sights) (P : Scene → Type 0) (inputs : List (List ℕ)) (meaning : WordMeaning) → Learns w s a b old mid P → Fails w s a b old new (BlamesScan inputs meaning NoMemory)
  scan-no_memory a b old mid new P inputs meaning l = fails-always w s a b old mid new P (BlamesScan inputs meaning NoMemory) l (λ st. tt)

  pub both-found : (a b c : T) (old mid new : Sights) (inputs : List (List ℕ)) (meaning : WordMeaning) (declared : Declared) (reached : Reached) → Learns w s a b old mid (λ scene. IsDeclaredBy scene inputs meaning.roots declared)
      → Scans w s b c mid new (λ scene. IsReachOf scene meaning.search reached) → Learns w s a c old new (λ scene. IsBoth scene inputs meaning declared reached)
  both-found a b c old mid new inputs meaning declared reached l k =
      learns-join w s a b c old mid new (λ scene. IsDeclaredBy scene inputs meaning.roots declared) (λ scene. IsReachOf scene meaning.search reached) (λ scene. IsBoth scene inputs meaning declared reached) l
      (learns-scans w s b c mid new (λ scene. IsReachOf scene meaning.search reached) k) (λ scene x y. record { declares = x; reaches = y })

  pub many-refused : (a b : T) (old new : Sights) (inputs : List (List ℕ)) (meaning : WordMeaning) (declared : Declared) (reached : Reached) (fault : GatherFault) → AreSorted (paths_of reached.files) → AreSeen new reached.files
      → Learns w s a b old new (λ scene. IsBoth scene inputs meaning declared reached) → OnlyTooMany (20000 < length reached.files) fault → Fails w s a b old new (BlamesScan inputs meaning fault)
  many-refused a b old new inputs meaning declared reached fault sorted seen l many =
      fails-after w s a b old new (λ scene. IsBoth scene inputs meaning declared reached) (BlamesScan inputs meaning fault) l
      (λ xs ls n fact. of-many inputs meaning fault (20000 < length reached.files) (stretch old new (s.faults a) (s.faults b) xs ls) n (λ over. passed-many new reached.files sorted seen over)
      (λ scene shows. (fact scene shows).declares.there) (λ scene shows over. reached-many scene inputs meaning meaning.search reached refl (fact scene shows).reaches sorted over) many)

  pub paths-found : (a b : T) (old new : Sights) (inputs : List (List ℕ)) (meaning : WordMeaning) (declared : Declared) (reached : Reached) (files dirs : List (List ℕ)) → length reached.files ≤ 20000
      → ((path : List ℕ) → Contains files path ↔ (Contains declared.files path ⊎ Contains (paths_of reached.files) path))
      → ((path : List ℕ) → Contains dirs path ↔ ((path ≢ []) × (Contains declared.empty_dirs path ⊎ Contains reached.left path)))
      → Learns w s a b old new (λ scene. IsBoth scene inputs meaning declared reached)
      → Learns w s a b old new (λ scene. IsPathsOf scene inputs meaning (record { files = files; dirs = dirs; known = reached.files; hard = reached.hard }))
  paths-found a b old new inputs meaning declared reached files dirs few fs ds l =
      learns-so w s a b old new (λ scene. IsBoth scene inputs meaning declared reached) (λ scene. IsPathsOf scene inputs meaning (record { files = files; dirs = dirs; known = reached.files; hard = reached.hard })) l
      (λ scene h. paths-of scene inputs meaning declared reached files dirs h.declares h.reaches few fs ds)

  pub paths-looked : (a b c : T) (old mid new : Sights) (inputs : List (List ℕ)) (meaning : WordMeaning) (paths : ScanPaths) → Learns w s a b old mid (λ scene. IsPathsOf scene inputs meaning paths) → Scans w s b c mid new (λ scene. AreRight scene new)
      → Learns w s a c old new (λ scene. IsLookedAt scene inputs meaning paths new)
  paths-looked a b c old mid new inputs meaning paths l k =
      learns-join w s a b c old mid new (λ scene. IsPathsOf scene inputs meaning paths) (λ scene. AreRight scene new) (λ scene. IsLookedAt scene inputs meaning paths new) l
      (learns-scans w s b c mid new (λ scene. AreRight scene new) k) (λ scene x y. record { paths_are = x; right = y })

  pub limits-refused : (a b : T) (old new : Sights) (inputs : List (List ℕ)) (meaning : WordMeaning) (paths : ScanPaths) (files : List SeenFile) (fault : GatherFault) → AreSorted paths.files → AreKnownAt new paths.files
      → files ≡ filter_map (file_seen new) paths.files → All (IsSeen new) files → (fault ≢ NoMemory → check_of Scan files ≡ Err fault)
      → Learns w s a b old new (λ scene. IsLookedAt scene inputs meaning paths new) → Fails w s a b old new (BlamesScan inputs meaning fault)
  limits-refused a b old new inputs meaning paths files fault sorted known e seen h l =
      fails-after w s a b old new (λ scene. IsLookedAt scene inputs meaning paths new) (BlamesScan inputs meaning fault) l
      (λ xs ls n fact. of-limits inputs meaning files fault (stretch old new (s.faults a) (s.faults b) xs ls) h n (seen-sorted new paths.files files e sorted) seen
      (λ scene shows. let k = fact scene shows in (k.paths_are.there, list-of-scan scene inputs meaning new paths files k.paths_are k.right sorted known e)))

  pub all-scanned : (a b : T) (old new : Sights) (inputs : List (List ℕ)) (meaning : WordMeaning) (paths : ScanPaths) (files : List SeenFile) (dirs : List (List ℕ)) → AreSorted paths.files → AreKnownAt new paths.files → AreKnownAt new paths.dirs
      → files ≡ filter_map (file_seen new) paths.files → dirs ≡ filter (λ path. is_dir_seen (seen_at new path)) paths.dirs → check_of Scan files ≡ Ok tt
      → Learns w s a b old new (λ scene. IsLookedAt scene inputs meaning paths new)
      → Learns w s a b old new (λ scene. IsScanOf scene inputs meaning (record { files = files; dirs = dirs; known = paths.known; hard = paths.hard }))
  all-scanned a b old new inputs meaning paths files dirs sorted fk dk fe de fits l =
      learns-so w s a b old new (λ scene. IsLookedAt scene inputs meaning paths new) (λ scene. IsScanOf scene inputs meaning (record { files = files; dirs = dirs; known = paths.known; hard = paths.hard })) l
      (λ scene h. scan-of scene inputs meaning new paths files dirs h.paths_are h.right sorted fk dk fe de fits)
