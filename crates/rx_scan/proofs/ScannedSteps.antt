-- The paths of a scan, and what they were seen as.
use Rattle.std.proofs.Common.{◌≡◌, ◌≢◌, ℕ, ◌≤◌, ◌⊎◌, inl, inr, true, List, [], ◌∷◌, filter, filter_map, length, refl, sym, ap, subst, ◌∙◌}
use Rattle.std.specs.Prelude.{All, Contains, None, Ok, Option, Some, ◌↔◌}
use Rattle.std.specs.List.{AllByRecursion}
use Rattle.std.proofs.lemmas.List.Elements.{recursion_from_All}
use Rattle.rx_base.specs.SortedPaths.{AreSorted}
use Rattle.rx_world.specs.declared.input_files.InputFile.{InputFile}
use Rattle.rx_world.specs.declared.looks.Look.{Look}
use Rattle.rx_world.specs.Sources.{is_file}
use Rattle.rx_base.proofs.Members.{All-among, Among, Among-from_contains, Contains-from_among}
use Rattle.rx_scan.specs.declared.inputs.Declared.{Declared}
use Rattle.rx_scan.specs.declared.limits.Extent.TheVariants.{Scan}
use Rattle.rx_reach.specs.declared.reach.Reached.{Reached}
use Rattle.rx_scan.specs.declared.scanned.ScanPaths.{ScanPaths}
use Rattle.rx_reach.specs.declared.searches.Search.{Search}
use Rattle.rx_scan.specs.declared.seen_files.SeenFile.{SeenFile}
use Rattle.rx_scan.specs.declared.words.WordMeaning.{WordMeaning}
use Rattle.rx_reach.specs.Candidates.{is_dir}
use Rattle.rx_reach.specs.FileTables.{paths_of}
use Rattle.rx_scan.specs.Inputs.{IsDeclaredBy}
use Rattle.rx_scan.specs.Limits.{check_of}
use Rattle.rx_reach.specs.Reach.{IsHard, IsLeastPath, IsLeft, IsReached}
use Rattle.rx_scan.specs.Scanned.{IsDirBy, IsPathsOf, IsReachOf, IsReachedBy, IsScanListBy, IsScanOf, IsScannedBy}
use Rattle.rx_reach.specs.Scenes.{AreRight, Scene}
use Rattle.rx_scan.specs.SeenDirs.{is_dir_seen}
use Rattle.rx_scan.specs.SeenFiles.{file_seen}
use Rattle.rx_reach.specs.Sights.{IsKnownAt, seen_at}
use Rattle.rx_reach.proofs.LeftLemmas.{left-dir}
use Rattle.rx_reach.proofs.NextLemmas.{led-file}
use Rattle.rx_scan.proofs.PathSteps.{in-filter}
use Rattle.rx_scan.proofs.WholeTaken.{IsKnown, same-looks, same-paths, sorted-seen}

abbrev Sights : Type 0
Sights = List (List ℕ × Look)

-- ---- what includes reach

some-is : (s t : Search) → Some s ≡ Some t → s ≡ t
some-is s t e = cc e

none-in : (path : List ℕ) → Contains [] path → ⊥
none-in path c = Among-from_contains path [] c

reach-files : (scene : Scene) (o : Option Search) (reached : Reached) → IsReachOf scene o reached → length reached.files ≤ 20000 → (path : List ℕ) → Contains (paths_of reached.files) path ↔ IsReachedBy scene o path
reach-files scene None reached h few path = (
  λ c. absurd (none-in path (subst (λ (fs : List InputFile). Contains (paths_of fs) path) h.0 c)),
  λ d. absurd (cc d.1),
)
reach-files scene (Some search) reached h few path =
    let w = h.whole few in (
      λ c. (search, refl, (w.files path).0 c),
      λ d. (w.files path).1 (subst (λ x. IsReached scene x path) (sym (some-is search d.0 d.1)) d.2),
    )

abbrev IsLeftBy : Scene → Option Search → List ℕ → Type 0
IsLeftBy scene o path = (search : Search) × (o ≡ Some search) × IsLeft scene search path

reach-left : (scene : Scene) (o : Option Search) (reached : Reached) → IsReachOf scene o reached → length reached.files ≤ 20000 → (path : List ℕ) → Contains reached.left path ↔ IsLeftBy scene o path
reach-left scene None reached h few path = (
  λ c. absurd (none-in path (subst (λ ps. Contains ps path) h.2 c)),
  λ d. absurd (cc d.1),
)
reach-left scene (Some search) reached h few path =
    let w = h.whole few in (
      λ c. (search, refl, (w.left path).0 c),
      λ d. (w.left path).1 (subst (λ x. IsLeft scene x path) (sym (some-is search d.0 d.1)) d.2),
    )

reach-hard : (scene : Scene) (o : Option Search) (reached : Reached) → IsReachOf scene o reached → length reached.files ≤ 20000 → (search : Search) → o ≡ Some search → IsLeastPath (IsHard scene search) reached.hard
reach-hard scene None reached h few search e = absurd (cc e)
reach-hard scene (Some s) reached h few search e =
    let w = h.whole few in
    subst (λ x. IsLeastPath (IsHard scene x) reached.hard) (some-is s search e) w.hard

reach-easy : (scene : Scene) (o : Option Search) (reached : Reached) → IsReachOf scene o reached → o ≡ None → reached.hard ≡ None
reach-easy scene None reached h e = h.1
reach-easy scene (Some s) reached h e = absurd (cc e)

-- a scan's paths, from what is declared and what is reached
pub paths-of : (scene : Scene) (inputs : List (List ℕ)) (meaning : WordMeaning) (declared : Declared) (reached : Reached) (files dirs : List (List ℕ)) → IsDeclaredBy scene inputs meaning.roots declared → IsReachOf scene meaning.search reached → length reached.files ≤ 20000
    → ((path : List ℕ) → Contains files path ↔ (Contains declared.files path ⊎ Contains (paths_of reached.files) path))
    → ((path : List ℕ) → Contains dirs path ↔ ((path ≢ []) × (Contains declared.empty_dirs path ⊎ Contains reached.left path)))
    → IsPathsOf scene inputs meaning (record { files = files; dirs = dirs; known = reached.files; hard = reached.hard })
paths-of scene inputs meaning declared reached files dirs d r few fs ds = record {
  there = d.there;
  files = λ path.
      let h = reach-files scene meaning.search reached r few path in (
        λ c. elim ((fs path).0 c) [ inl l ↦ inl ((d.files path).0 l) | inr x ↦ inr (h.0 x) ],
        λ s. (fs path).1 (elim s [ inl l ↦ inl ((d.files path).1 l) | inr x ↦ inr (h.1 x) ]),
      );
  hard = reach-hard scene meaning.search reached r few;
  easy = reach-easy scene meaning.search reached r;
  dirs = λ path.
      let h = reach-left scene meaning.search reached r few path in (
        λ c. let k = (ds path).0 c in (k.0, elim k.1 [ inl l ↦ inl ((d.empty path).0 l) | inr x ↦ inr (h.0 x) ]),
        λ s. (ds path).1 (s.0, elim s.1 [ inl l ↦ inl ((d.empty path).1 l) | inr x ↦ inr (h.1 x) ]),
      );
}

-- ---- they are files and directories

scanned-file : (scene : Scene) (inputs : List (List ℕ)) (meaning : WordMeaning) (path : List ℕ) → IsScannedBy scene inputs meaning path → is_file (scene.look path) ≡ true
scanned-file scene inputs meaning path (inl d) = d.0
scanned-file scene inputs meaning path (inr r) = led-file scene r.0 r.2.0 path r.2.1

dir-is : (scene : Scene) (inputs : List (List ℕ)) (meaning : WordMeaning) (path : List ℕ) → IsDirBy scene inputs meaning path → is_dir (scene.look path) ≡ true
dir-is scene inputs meaning path (some, inl e) = e.1
dir-is scene inputs meaning path (some, inr l) = left-dir scene l.2.0 path some l.2.2

known-all : (sights : Sights) (scene : Scene) (paths : List (List ℕ)) → AreRight scene sights → AllByRecursion (IsKnownAt sights) paths → ((path : List ℕ) → Among path paths → is_file (scene.look path) ≡ true) → AllByRecursion (IsKnown sights scene) paths
known-all sights scene [] r k f = tt
known-all sights scene (path ∷ paths) r k f =
    ((k.0.1 ∙ ap (λ look. Some look) (r path k.0.0 k.0.1), f path (inl refl)), known-all sights scene paths r k.1 (λ p a. f p (inr a)))

seen-dir : (sights : Sights) (scene : Scene) (path : List ℕ) → AreRight scene sights → IsKnownAt sights path → is_dir (scene.look path) ≡ true → is_dir_seen (seen_at sights path) ≡ true
seen-dir sights scene path r k t = ap is_dir_seen k.1 ∙ ap is_dir (r path k.0 k.1) ∙ t

-- the files that were seen at a scan's paths are its files
pub list-of-scan : (scene : Scene) (inputs : List (List ℕ)) (meaning : WordMeaning) (sights : Sights) (paths : ScanPaths) (files : List SeenFile) → IsPathsOf scene inputs meaning paths → AreRight scene sights → AreSorted paths.files → All (IsKnownAt sights) paths.files
    → files ≡ filter_map (file_seen sights) paths.files → IsScanListBy scene inputs meaning files
list-of-scan scene inputs meaning sights paths files h r sorted fk fe =
    let known = known-all sights scene paths.files r (recursion_from_All (IsKnownAt sights) paths.files fk) (λ p a. scanned-file scene inputs meaning p ((h.files p).0 (Contains-from_among p paths.files a))) in
    let same = same-paths sights scene paths.files known in
    subst (λ fs. IsScanListBy scene inputs meaning fs) (sym fe) (record {
      sorted = sorted-seen sights paths.files sorted;
      looks = same-looks sights scene paths.files known;
      only = λ path. (λ c. (h.files path).0 (subst (λ ps. Contains ps path) same c), λ d. subst (λ ps. Contains ps path) (sym same) ((h.files path).1 d));
    })

-- what was scanned, from what was seen at a scan's paths
pub scan-of : (scene : Scene) (inputs : List (List ℕ)) (meaning : WordMeaning) (sights : Sights) (paths : ScanPaths) (files : List SeenFile) (dirs : List (List ℕ)) → IsPathsOf scene inputs meaning paths → AreRight scene sights → AreSorted paths.files
    → All (IsKnownAt sights) paths.files → All (IsKnownAt sights) paths.dirs → files ≡ filter_map (file_seen sights) paths.files → dirs ≡ filter (λ path. is_dir_seen (seen_at sights path)) paths.dirs → check_of Scan files ≡ Ok tt
    → IsScanOf scene inputs meaning (record { files = files; dirs = dirs; known = paths.known; hard = paths.hard })
scan-of scene inputs meaning sights paths files dirs h r sorted fk dk fe de fits = record {
  there = h.there;
  list = list-of-scan scene inputs meaning sights paths files h r sorted fk fe;
  fits = fits;
  hard = h.hard;
  easy = h.easy;
  dirs = λ path.
      let i = in-filter (λ p. is_dir_seen (seen_at sights p)) paths.dirs dirs de path in (
        λ c. (h.dirs path).0 (i.0 c).1,
        λ d.
            let has = (h.dirs path).1 d in
            let k = All-among (IsKnownAt sights) path paths.dirs (recursion_from_All (IsKnownAt sights) paths.dirs dk) (Among-from_contains path paths.dirs has) in
            i.1 (seen-dir sights scene path r k (dir-is scene inputs meaning path d), has),
      );
}
