-- What a whole list leaves of a scene: its files but the outputs, as they were seen.
use Rattle.std.proofs.Common.{◌≡◌, ◌≢◌, ℕ, ◌≤◌, ◌||◌, Bool, true, false, cond, not, List, [], ◌∷◌, ◌++◌, Less, bytes_eq, filter, filter_map, length, map, nat_cmp, ltb, refl, sym, ap, subst, ◌∙◌, arith, true≢false}
use Rattle.std.specs.Prelude.{All, Contains, Err, None, Ok, Option, Result, Some}
use Rattle.std.specs.Cmp.Lexicographic.{nat_list_cmp_total, slice_cmp}
use Rattle.std.specs.FinMap.{nat_cmp-IsAntisymmetric, slice_cmp-IsAntisymmetric}
use Rattle.std.specs.List.{AllByRecursion, cons_option, list_any}
use Rattle.std.specs.List.Sorted.{IsStrictlySortedBy}
use Rattle.std.proofs.lemmas.Bool.{lt-ltb, ltb-false}
use Rattle.std.proofs.lemmas.List.{length-map}
use Rattle.std.proofs.lemmas.List.Elements.{All-cons, All-filter, All-from_recursion, All-head, All-nil, All-tail, recursion_from_All}
use Rattle.std.proofs.lemmas.List.Folds.{list_any_at, list_any_none}
use Rattle.std.proofs.lemmas.List.Kept.{IsStrictlySortedBy-filter}
use Rattle.std.proofs.lemmas.Slice.Eq.{bytes_eq-Decides}
use Rattle.rx_base.specs.SortedPaths.{AreSorted, sorted_paths}
use Rattle.rx_base.proofs.Orders.{is_sorted_once}
use Rattle.rx_world.specs.declared.looks.Look.{Look}
use Rattle.rx_world.specs.declared.looks.Look.TheVariants.{Absent, Dir, File, Other}
use Rattle.rx_world.specs.declared.sources.Found.{Found}
use Rattle.rx_world.specs.declared.sources.Given.{Given}
use Rattle.rx_world.specs.declared.sources.Sources as sources
use Rattle.rx_world.specs.declared.world.World as world
use Rattle.rx_world.specs.Sources.{given_all, is_file}
use Rattle.rx_base.proofs.Members.{All-among, Among-from_contains, Contains-from_among}
use Rattle.rx_world.proofs.Among.{among-filter, among-from_filter}
use Rattle.rx_reach.specs.declared.faults.SightFault.{SightFault}
use Rattle.rx_reach.specs.declared.faults.SightFault.TheVariants.{InputChanged as Changed, NoMemory as OutOfMemory, SourceFault as Lost}
use Rattle.rx_scan.specs.declared.gather_fault.GatherFault.{GatherFault}
use Rattle.rx_scan.specs.declared.gather_fault.GatherFault.TheVariants.{Blocked, InputChanged, InputMissing, NoMemory, NotRemotable, SourceFault, TooLarge}
use Rattle.rx_scan.specs.declared.limits.Extent.{Extent}
use Rattle.rx_scan.specs.declared.limits.Extent.TheVariants.{WholeList}
use Rattle.rx_scan.specs.declared.seen_files.SeenFile.{SeenFile}
use Rattle.rx_scan.specs.Digests.{IsSeen}
use Rattle.rx_scan.specs.GatherFault.{fault_of}
use Rattle.rx_scan.specs.Limits.{check_of, large_file, most_bytes, most_files, sizes_of, total_size}
use Rattle.rx_scan.specs.Lists.{BlamesSight, Fails, HasView, IsListed, Learns, Shown, Stretch, is_under, paths_of, stretch}
use Rattle.rx_reach.specs.Scenes.{Scene}
use Rattle.rx_scan.specs.SeenFiles.{file_of_seen, file_seen}
use Rattle.rx_reach.specs.Sights.{Notes, seen_at}
use Rattle.rx_scan.specs.Whole.{BlamesWhole, IsListOf, IsSeenIn, IsWholeBy, without}
use Rattle.rx_scan.proofs.DeclaredSteps.{all-of, false_not, not_true}
use Rattle.rx_scan.proofs.Learning.{fails-after, fails-always, fails-so, learns-so}

abbrev Sights : Type 0
Sights = List (List ℕ × Look)

abbrev path_of : SeenFile → List ℕ
path_of file = file.path

abbrev seen_files : Sights → List (List ℕ) → List SeenFile
seen_files sights paths = filter_map (file_seen sights) paths

-- ---- the files among sorted paths are sorted

abbrev Above : List ℕ → List (List ℕ) → Type 0
Above path paths = AllByRecursion (λ other. slice_cmp nat_cmp path other ≡ Less) paths

above-case : (low path : List ℕ) (seen : Option Look) (files : List SeenFile) → slice_cmp nat_cmp low path ≡ Less → Above low (map path_of files) → Above low (map path_of (cons_option (file_of_seen path seen) files))
above-case low path None files lt h = h
above-case low path (Some Absent) files lt h = h
above-case low path (Some (File stamp executable)) files lt h = (lt, h)
above-case low path (Some Dir) files lt h = h
above-case low path (Some Other) files lt h = h

above-seen : (sights : Sights) (low : List ℕ) (paths : List (List ℕ)) → Above low paths → Above low (map path_of (seen_files sights paths))
above-seen sights low [] h = tt
above-seen sights low (path ∷ paths) h = above-case low path (seen_at sights path) (seen_files sights paths) h.0 (above-seen sights low paths h.1)

sorted-case : (path : List ℕ) (seen : Option Look) (files : List SeenFile) → Above path (map path_of files) → AreSorted (map path_of files) → AreSorted (map path_of (cons_option (file_of_seen path seen) files))
unfolding IsStrictlySortedBy
sorted-case path None files a h = h
sorted-case path (Some Absent) files a h = h
sorted-case path (Some (File stamp executable)) files a h = (a, h)
sorted-case path (Some Dir) files a h = h
sorted-case path (Some Other) files a h = h

pub sorted-seen : (sights : Sights) (paths : List (List ℕ)) → AreSorted paths → AreSorted (map path_of (seen_files sights paths))
unfolding IsStrictlySortedBy
sorted-seen sights [] h = tt
sorted-seen sights (path ∷ paths) h = sorted-case path (seen_at sights path) (seen_files sights paths) (above-seen sights path paths h.0) (sorted-seen sights paths h.1)

pub seen-sorted : (sights : Sights) (paths : List (List ℕ)) (files : List SeenFile) → files ≡ filter_map (file_seen sights) paths → AreSorted paths → AreSorted (map path_of files)
seen-sorted sights paths files e h = subst (λ (fs : List SeenFile). AreSorted (map path_of fs)) (sym e) (sorted-seen sights paths h)

pub left-sorted : (sights : Sights) (paths outputs left : List (List ℕ)) (inputs : List SeenFile) → left ≡ without paths outputs → inputs ≡ filter_map (file_seen sights) left → AreSorted paths → AreSorted (map path_of inputs)
left-sorted sights paths outputs left inputs t is h =
    subst (λ (fs : List SeenFile). AreSorted (map path_of fs)) (sym (is ∙ ap (filter_map (file_seen sights)) t))
    (sorted-seen sights (without paths outputs) (IsStrictlySortedBy-filter (slice_cmp nat_cmp) (λ path. not (list_any (λ other. bytes_eq path other) outputs)) paths h))

-- ---- they are no more than may be

few-case : (b : Bool) (most n : ℕ) (over : GatherFault) (rest : Result (Unit {0}) GatherFault) → ltb most n ≡ b → cond b (Err over) rest ≡ Ok tt → n ≤ most
few-case true most n over rest t e = absurd (cc e)
few-case false most n over rest t e = ltb-false most n t

pub few-files : (extent : Extent) (files : List SeenFile) → check_of extent files ≡ Ok tt → length files ≤ most_files extent
few-files extent files e = few-case (ltb (most_files extent) (length files)) (most_files extent) (length files) _ (sizes_of extent files (large_file files)) refl e

shorter-both : (file : Option SeenFile) (xs ys : List SeenFile) → length xs ≤ length ys → length (cons_option file xs) ≤ length (cons_option file ys)
shorter-both None xs ys h = h
shorter-both (Some file) xs ys h = omega (arith, h)

shorter-one : (file : Option SeenFile) (xs ys : List SeenFile) → length xs ≤ length ys → length xs ≤ length (cons_option file ys)
shorter-one None xs ys h = h
shorter-one (Some file) xs ys h = omega (arith, h)

shorter-case : (f : List ℕ → Option SeenFile) (b : Bool) (path : List ℕ) (xs ys : List (List ℕ)) → length (filter_map f xs) ≤ length (filter_map f ys) → length (filter_map f (cond b (path ∷ xs) xs)) ≤ length (cons_option (f path) (filter_map f ys))
shorter-case f true path xs ys h = shorter-both (f path) (filter_map f xs) (filter_map f ys) h
shorter-case f false path xs ys h = shorter-one (f path) (filter_map f xs) (filter_map f ys) h

shorter : (f : List ℕ → Option SeenFile) (p : List ℕ → Bool) (paths : List (List ℕ)) → length (filter_map f (filter p paths)) ≤ length (filter_map f paths)
shorter f p [] = omega arith
shorter f p (path ∷ paths) = shorter-case f (p path) path (filter p paths) paths (shorter f p paths)

pub left-few : (sights : Sights) (paths outputs left : List (List ℕ)) (files inputs : List SeenFile) → files ≡ filter_map (file_seen sights) paths → check_of WholeList files ≡ Ok tt → left ≡ without paths outputs → inputs ≡ filter_map (file_seen sights) left → length inputs ≤ 50000
left-few sights paths outputs left files inputs e fits t is =
    omega (
      arith,
      few-files WholeList files fits,
      ap length e,
      ap length (is ∙ ap (filter_map (file_seen sights)) t),
      shorter (file_seen sights) (λ path. not (list_any (λ other. bytes_eq path other) outputs)) paths,
    )

-- ---- in a scene that has what was found

-- the path was seen, as the file that the scene has there
abbrev pub IsKnown : Sights → Scene → List ℕ → Type 0
IsKnown sights scene path = (seen_at sights path ≡ Some (scene.look path)) × (is_file (scene.look path) ≡ true)

paths-case : (path : List ℕ) (seen : Option Look) (look : Look) (files : List SeenFile) → seen ≡ Some look → is_file look ≡ true → map path_of (cons_option (file_of_seen path seen) files) ≡ path ∷ map path_of files
paths-case path seen (File stamp executable) files e t = rw e refl
paths-case path seen Absent files e t = absurd (true≢false (sym t))
paths-case path seen Dir files e t = absurd (true≢false (sym t))
paths-case path seen Other files e t = absurd (true≢false (sym t))

pub same-paths : (sights : Sights) (scene : Scene) (paths : List (List ℕ)) → AllByRecursion (IsKnown sights scene) paths → map path_of (seen_files sights paths) ≡ paths
same-paths sights scene [] h = refl
same-paths sights scene (path ∷ paths) h = paths-case path (seen_at sights path) (scene.look path) (seen_files sights paths) h.0.0 h.0.1 ∙ ap (λ ps. path ∷ ps) (same-paths sights scene paths h.1)

looks-case : (scene : Scene) (path : List ℕ) (seen : Option Look) (look : Look) (files : List SeenFile) → seen ≡ Some look → look ≡ scene.look path → is_file look ≡ true → All (IsSeenIn scene) files → All (IsSeenIn scene) (cons_option (file_of_seen path seen) files)
looks-case scene path seen (File stamp executable) files e is t h = rw e (All-cons (IsSeenIn scene) (record { path = path; stamp = stamp; executable = executable }) files (sym is) h)
looks-case scene path seen Absent files e is t h = absurd (true≢false (sym t))
looks-case scene path seen Dir files e is t h = absurd (true≢false (sym t))
looks-case scene path seen Other files e is t h = absurd (true≢false (sym t))

pub same-looks : (sights : Sights) (scene : Scene) (paths : List (List ℕ)) → AllByRecursion (IsKnown sights scene) paths → All (IsSeenIn scene) (seen_files sights paths)
same-looks sights scene [] h = All-nil (IsSeenIn scene)
same-looks sights scene (path ∷ paths) h = looks-case scene path (seen_at sights path) (scene.look path) (seen_files sights paths) h.0.0 refl h.0.1 (same-looks sights scene paths h.1)

known-found : (sights : Sights) (scene : Scene) (found : List Found) → AllByRecursion (λ f. f.look ≡ scene.look f.path) found → AllByRecursion (λ f. seen_at sights f.path ≡ Some f.look) found → AllByRecursion (λ path. is_file (scene.look path) ≡ true) (paths_of found) → AllByRecursion (IsKnown sights scene) (paths_of found)
known-found sights scene [] l s t = tt
known-found sights scene (f ∷ fs) l s t = ((s.0 ∙ ap (λ look. Some look) l.0, t.0), known-found sights scene fs l.1 s.1 t.1)

-- what was found and noted is known
pub record IsKnownList (sights : Sights) (scene : Scene) (paths : List (List ℕ)) : Type 0 where
  pub sorted : AreSorted paths
  pub known : AllByRecursion (IsKnown sights scene) paths
  pub whole : length paths ≤ 50000 → (path : List ℕ) → is_file (scene.look path) ≡ true → Contains paths path

below-root : (path : List ℕ) → is_under [] path ≡ true
below-root [] = refl
below-root (byte ∷ bytes) = ap (λ b. b || bytes_eq (byte ∷ bytes) []) (lt-ltb 0 (length (byte ∷ bytes)) (omega arith))

known-list : (sights : Sights) (scene : Scene) (found : List Found) → IsListed scene [] 50000 found → All (λ f. seen_at sights f.path ≡ Some f.look) found → IsKnownList sights scene (paths_of found)
known-list sights scene found l s = record {
  sorted = l.right.sorted;
  known = known-found sights scene found
      (recursion_from_All (λ f. f.look ≡ scene.look f.path) found l.looks)
      (recursion_from_All (λ f. seen_at sights f.path ≡ Some f.look) found s)
      (recursion_from_All (λ path. is_file (scene.look path) ≡ true) (paths_of found) (all-of (λ path. is_file (scene.look path) ≡ true) (paths_of found) (λ path c. (l.right.only path c).0)));
  whole = λ few path t. l.right.whole few path t (below-root path);
}

-- a list that is in order is what a sort makes of it
sorted-same : (paths : List (List ℕ)) → AreSorted paths → paths ≡ sorted_paths paths
sorted-same paths h = is_sorted_once nat_list_cmp_total (slice_cmp-IsAntisymmetric nat_cmp-IsAntisymmetric) paths paths h (λ path. (λ c. c, λ c. c))

pub known-sorted : (sights : Sights) (scene : Scene) (found : List Found) (paths : List (List ℕ)) → paths ≡ sorted_paths (paths_of found) → IsListed scene [] 50000 found → All (λ f. seen_at sights f.path ≡ Some f.look) found → IsKnownList sights scene paths
known-sorted sights scene found paths e l s = subst (λ ps. IsKnownList sights scene ps) (sorted-same (paths_of found) l.right.sorted ∙ sym e) (known-list sights scene found l s)

same-length : (sights : Sights) (scene : Scene) (paths : List (List ℕ)) → AllByRecursion (IsKnown sights scene) paths → length paths ≡ length (seen_files sights paths)
same-length sights scene paths h = ap length (sym (same-paths sights scene paths h)) ∙ length-map (seen_files sights paths) path_of

pub list-of : (sights : Sights) (scene : Scene) (paths : List (List ℕ)) → IsKnownList sights scene paths → IsListOf scene (seen_files sights paths)
list-of sights scene paths h =
    let same = same-paths sights scene paths h.known in
    record {
      sorted = sorted-seen sights paths h.sorted;
      looks = same-looks sights scene paths h.known;
      whole = λ few path t. subst (λ ps. Contains ps path) (sym same) (h.whole (omega (arith, few, same-length sights scene paths h.known)) path t);
    }

any-is : (xs : List (List ℕ)) (path : List ℕ) → Contains xs path → list_any (λ other. bytes_eq path other) xs ≡ true
any-is xs path c = list_any_at (λ other. bytes_eq path other) xs c.0 path c.1 (subst (λ y. bytes_eq path y ≡ true) (sym c.2) ((bytes_eq-Decides path path).1 refl))

none-is : (xs : List (List ℕ)) (path : List ℕ) → (Contains xs path → ⊥) → list_any (λ other. bytes_eq path other) xs ≡ false
none-is xs path f = list_any_none (λ other. bytes_eq path other) xs (all-of (λ other. bytes_eq path other ≡ false) xs (λ other c. not_true (bytes_eq path other) (λ e. f (subst (λ p. Contains xs p) (sym ((bytes_eq-Decides path other).0 e)) c))))

pub whole-by : (sights : Sights) (scene : Scene) (paths outputs : List (List ℕ)) → IsKnownList sights scene paths → check_of WholeList (seen_files sights paths) ≡ Ok tt → IsWholeBy scene outputs (seen_files sights (without paths outputs))
whole-by sights scene paths outputs h fits =
    let p : List ℕ → Bool = λ path. not (list_any (λ other. bytes_eq path other) outputs) in
    let known = recursion_from_All (IsKnown sights scene) (without paths outputs) (All-filter p (IsKnown sights scene) paths (All-from_recursion (IsKnown sights scene) paths h.known)) in
    let same = same-paths sights scene (without paths outputs) known in
    let few : length paths ≤ 50000 = omega (arith, few-files WholeList (seen_files sights paths) fits, same-length sights scene paths h.known) in
    record {
      looks = same-looks sights scene (without paths outputs) known;
      only = λ path. (
        λ c.
            let a = among-from_filter p path paths (Among-from_contains path (without paths outputs) (subst (λ ps. Contains ps path) same c)) in (
              (All-among (IsKnown sights scene) path paths h.known a.0).1,
              λ o. absurd (true≢false (sym (any-is outputs path o) ∙ false_not (list_any (λ other. bytes_eq path other) outputs) a.1)),
            ),
        λ d. subst (λ ps. Contains ps path) (sym same)
            (Contains-from_among path (without paths outputs) (among-filter p path paths (Among-from_contains path paths (h.whole few path d.0)) (ap not (none-is outputs path d.1)))),
      );
      fits = (seen_files sights paths, list-of sights scene paths h, fits);
    }

-- ---- each file of a list was seen

seen-found : (sights : Sights) (found : List Found) → All (λ answer. seen_at sights answer.path ≡ Some answer.look) (given_all found) → AllByRecursion (λ f. seen_at sights f.path ≡ Some f.look) found
seen-found sights [] h = tt
seen-found sights (f ∷ fs) h =
    let P : Given → Type 0 = λ answer. seen_at sights answer.path ≡ Some answer.look in
    (All-head P _ (given_all fs) h, seen-found sights fs (All-tail P _ (given_all fs) h))

pub noted-seen : (old new : Sights) (found : List Found) → Notes old new (given_all found) → All (λ f. seen_at new f.path ≡ Some f.look) found
noted-seen old new found n = All-from_recursion (λ f. seen_at new f.path ≡ Some f.look) found (seen-found new found n.same)

-- ---- refusals

blames-whole : (fault : SightFault) (st : Stretch) → BlamesSight fault st → BlamesWhole (fault_of fault) st
blames-whole (Lost path) st h = h
blames-whole (Changed change) st h = h
blames-whole OutOfMemory st h = tt

-- the limits refuse nothing but what is too large
abbrev pub IsLarge : GatherFault → Type 0
IsLarge (TooLarge limit n path) = Unit {0}
IsLarge (InputMissing path) = ⊥
IsLarge (SourceFault path) = ⊥
IsLarge (InputChanged change) = ⊥
IsLarge (NotRemotable cause) = ⊥
IsLarge (Blocked path) = ⊥
IsLarge NoMemory = ⊥

abbrev OnlyLarge : Result (Unit {0}) GatherFault → Type 0
OnlyLarge (Ok done) = Unit {0}
OnlyLarge (Err fault) = IsLarge fault

only-case : (b : Bool) (over : GatherFault) (rest : Result (Unit {0}) GatherFault) → IsLarge over → OnlyLarge rest → OnlyLarge (cond b (Err over) rest)
only-case true over rest h k = h
only-case false over rest h k = k

only-sizes : (extent : Extent) (files : List SeenFile) (large : Option SeenFile) → OnlyLarge (sizes_of extent files large)
only-sizes extent files (Some file) = tt
only-sizes extent files None = only-case (ltb most_bytes (total_size files)) _ (Ok tt) tt tt

pub only-large : (extent : Extent) (files : List SeenFile) (fault : GatherFault) → check_of extent files ≡ Err fault → IsLarge fault
only-large extent files fault e = subst OnlyLarge e (only-case (ltb (most_files extent) (length files)) _ (sizes_of extent files (large_file files)) tt (only-sizes extent files (large_file files)))

blames-large : (files : List SeenFile) (fault : GatherFault) (st : Stretch) → (fault ≢ NoMemory → check_of WholeList files ≡ Err fault) → HasView st → AreSorted (map path_of files) → All (IsSeen st.new) files
    → Shown st (λ scene. IsListOf scene files) → BlamesWhole fault st
blames-large files (TooLarge limit n path) st h view sorted seen f = ((files, sorted, seen, h (λ e. cc e)), view, λ scene shows. (files, f scene shows, h (λ e. cc e)))
blames-large files (InputMissing path) st h view sorted seen f = absurd (only-large WholeList files (InputMissing path) (h (λ e. cc e)))
blames-large files (SourceFault path) st h view sorted seen f = absurd (only-large WholeList files (SourceFault path) (h (λ e. cc e)))
blames-large files (InputChanged change) st h view sorted seen f = absurd (only-large WholeList files (InputChanged change) (h (λ e. cc e)))
blames-large files (NotRemotable cause) st h view sorted seen f = absurd (only-large WholeList files (NotRemotable cause) (h (λ e. cc e)))
blames-large files (Blocked path) st h view sorted seen f = absurd (only-large WholeList files (Blocked path) (h (λ e. cc e)))
blames-large files NoMemory st h view sorted seen f = tt

module _ {T W : Type 0} (w : world.Ghosts W) (s : sources.Ghosts T W) where
  pub whole-failed : (a b : T) (old new : Sights) (fault : SightFault) → Fails w s a b old new (BlamesSight fault) → Fails w s a b old new (BlamesWhole (fault_of fault))
  whole-failed a b old new fault f = fails-so w s a b old new (BlamesSight fault) (BlamesWhole (fault_of fault)) f (λ st h. blames-whole fault st h)

  -- memory may run out at any time
  pub whole-no_memory : (a b : T) (old mid new : Sights) (P : Scene → Type 0) → Learns w s a b old mid P → Fails w s a b old new (BlamesWhole NoMemory)
  whole-no_memory a b old mid new P l = fails-always w s a b old mid new P (BlamesWhole NoMemory) l (λ st. tt)

  -- the list is in each scene that shows it
  pub whole-known : (a b : T) (old new : Sights) (root : List ℕ) (start all paths : List (List ℕ)) (found : List Found) → root ≡ [] → start ≡ [] → all ≡ start ++ paths_of found → paths ≡ sorted_paths all
      → All (λ f. seen_at new f.path ≡ Some f.look) found → Learns w s a b old new (λ scene. IsListed scene root 50000 found)
      → Learns w s a b old new (λ scene. IsKnownList new scene paths)
  whole-known a b old new root start all paths found r e i is seen l =
      learns-so w s a b old new (λ scene. IsListed scene root 50000 found) (λ scene. IsKnownList new scene paths) l
      (λ scene h. known-sorted new scene found paths (is ∙ ap sorted_paths (i ∙ ap (λ (ps : List (List ℕ)). ps ++ paths_of found) e)) (subst (λ (p : List ℕ). IsListed scene p 50000 found) r h) seen)

  pub whole-large : (a b : T) (old new : Sights) (paths : List (List ℕ)) (files : List SeenFile) (fault : GatherFault) → files ≡ filter_map (file_seen new) paths → (fault ≢ NoMemory → check_of WholeList files ≡ Err fault)
      → AreSorted paths → All (IsSeen new) files → Learns w s a b old new (λ scene. IsKnownList new scene paths) → Fails w s a b old new (BlamesWhole fault)
  whole-large a b old new paths files fault e h sorted seen l =
      fails-after w s a b old new (λ scene. IsKnownList new scene paths) (BlamesWhole fault) l
      (λ xs ls n fact. blames-large files fault (stretch old new (s.faults a) (s.faults b) xs ls) h n (seen-sorted new paths files e sorted) seen
      (λ scene shows. subst (λ (fs : List SeenFile). IsListOf scene fs) (sym e) (list-of new scene paths (fact scene shows))))

  pub whole-taken : (a b : T) (old new : Sights) (paths outputs left : List (List ℕ)) (files inputs : List SeenFile) → files ≡ filter_map (file_seen new) paths → check_of WholeList files ≡ Ok tt → left ≡ without paths outputs → inputs ≡ filter_map (file_seen new) left
      → Learns w s a b old new (λ scene. IsKnownList new scene paths) → Learns w s a b old new (λ scene. IsWholeBy scene outputs inputs)
  whole-taken a b old new paths outputs left files inputs e fits t is l =
      learns-so w s a b old new (λ scene. IsKnownList new scene paths) (λ scene. IsWholeBy scene outputs inputs) l
      (λ scene h. subst (λ (fs : List SeenFile). IsWholeBy scene outputs fs) (sym (is ∙ ap (filter_map (file_seen new)) t)) (whole-by new scene paths outputs h (ap (check_of WholeList) (sym e) ∙ fits)))
