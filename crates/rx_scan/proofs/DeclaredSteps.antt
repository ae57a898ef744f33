-- The lists of declared directories, and what all declared inputs stand for.
use Rattle.std.proofs.Common.{◌≡◌, ℕ, ◌+◌, ◌<◌, ◌≤◌, ◌||◌, ◌⊎◌, inl, inr, Bool, true, false, not, List, [], ◌∷◌, ◌++◌, bytes_eq, length, get_or, take, drop, refl, sym, ap, subst, ◌∙◌, arith, true≢false}
use Rattle.std.specs.Prelude.{All, Contains, None}
use Rattle.std.specs.List.{list_any}
use Rattle.std.proofs.lemmas.List.{length-map, take-append-drop}
use Rattle.std.proofs.lemmas.List.Elements.{All-weaker, Contains-append_cases, Contains-append_left, Contains-append_right, Contains-get_or, Contains-push, Contains-push_cases}
use Rattle.std.proofs.lemmas.List.Folds.{list_any_at, list_any_none}
use Rattle.std.proofs.lemmas.Slice.Eq.{bytes_eq-Decides}
use Rattle.rx_base.specs.Paths.{is_below}
use Rattle.rx_base.specs.SortedPaths.{HasSameMembers}
use Rattle.rx_world.specs.declared.looks.Look.{Look}
use Rattle.rx_world.specs.declared.looks.Look.TheVariants.{Absent, Dir, File, Other}
use Rattle.rx_world.specs.declared.sources.Found.{Found}
use Rattle.rx_world.specs.declared.sources.Given.{Given}
use Rattle.rx_world.specs.declared.sources.Sources as sources
use Rattle.rx_world.specs.declared.world.World as world
use Rattle.rx_world.specs.Sources.{is_file}
use Rattle.rx_base.proofs.Members.{Among, Among-from_contains, Contains-from_among}
use Rattle.rx_world.proofs.Among.{among-filter, among-from_filter}
use Rattle.rx_reach.specs.declared.faults.SightFault.{SightFault}
use Rattle.rx_reach.specs.declared.faults.SightFault.TheVariants.{InputChanged as Changed, NoMemory as OutOfMemory, SourceFault as Lost}
use Rattle.rx_scan.specs.declared.gather_fault.GatherFault.{GatherFault}
use Rattle.rx_scan.specs.declared.gather_fault.GatherFault.TheVariants.{Blocked, InputChanged, InputMissing, NoMemory, NotRemotable, SourceFault, TooLarge}
use Rattle.rx_scan.specs.declared.inputs.LookedInputs.{LookedInputs}
use Rattle.rx_reach.specs.Candidates.{is_dir}
use Rattle.rx_scan.specs.GatherFault.{fault_of}
use Rattle.rx_scan.specs.Inputs.{BlamesInputs, BlamesLists, HasListed, HasTooMany, IsDeclared, IsDeclaredBy, IsLooked, IsOver, IsUnderOne, OnlyTooMany, empty_among, first_missing}
use Rattle.rx_scan.specs.Lists.{BlamesSight, Fails, HasView, IsListed, Learns, Listing, Shown, Shows, Stretch, is_under, paths_of, stretch}
use Rattle.rx_reach.specs.Scenes.{Scene}
use Rattle.rx_reach.specs.Sights.{Notes}
use Rattle.rx_reach.proofs.SightLemmas.{blames-later, differed-later, notes-join}
use Rattle.rx_scan.proofs.Learning.{fails-after, fails-join, fails-so, learns-join, learns-none, shows-first, shows-then}
use Rattle.rx_scan.proofs.InputSteps.{taken}

abbrev Sights : Type 0
Sights = List (List ℕ × Look)

pub all-of : (P : List ℕ → Type 0) (xs : List (List ℕ)) → ((x : List ℕ) → Contains xs x → P x) → All P xs
all-of P xs f = λ k d lt. f (get_or xs k d) (Contains-get_or xs k d lt)

pub many-so : (P Q : List ℕ → Type 0) → ((x : List ℕ) → P x → Q x) → HasTooMany P → HasTooMany Q
many-so P Q f h = (h.0, h.1, h.2, All-weaker P Q f h.0 h.3)

-- ---- one list more

abbrev IsOf : Scene → List (List ℕ) → List (List ℕ) → List ℕ → Type 0
IsOf scene files roots path = Contains files path ⊎ IsUnderOne scene roots path

nothing_under : (scene : Scene) (path : List ℕ) → IsUnderOne scene [] path → ⊥
nothing_under scene path h = omega (arith, h.1.1.1)

under-left : (scene : Scene) (roots : List (List ℕ)) (root path : List ℕ) → IsUnderOne scene roots path → IsUnderOne scene (roots ++ root ∷ []) path
under-left scene roots root path h = (h.0, (h.1.0, Contains-append_left roots (root ∷ []) h.1.0 h.1.1, h.1.2))

listed-more : (scene : Scene) (files xs mid next : List (List ℕ)) (root : List ℕ) (found : List Found) → HasListed scene files xs mid → IsListed scene root 20000 found → length found ≤ 20000 → HasSameMembers (mid ++ paths_of found) next → HasListed scene files (xs ++ root ∷ []) next
listed-more scene files xs mid next root found h l few same path = (
  λ c. elim (Contains-append_cases mid (paths_of found) path ((same path).1 c)) [
    | inl m ↦ elim ((h path).0 m) [
      | inl f ↦ inl f
      | inr u ↦ inr (under-left scene xs root path u)
    ]
    | inr p ↦ let o = l.right.only path p in inr (o.0, (root, Contains-push xs root, o.1))
  ],
  λ e. (same path).0 (elim e [
    | inl f ↦ Contains-append_left mid (paths_of found) path ((h path).1 (inl f))
    | inr u ↦ elim (Contains-push_cases xs root u.1.0 u.1.1) [
      | inl c ↦ Contains-append_left mid (paths_of found) path ((h path).1 (inr (u.0, (u.1.0, c, u.1.2))))
      | inr is ↦
          let short : length (paths_of found) ≤ 20000 = omega (arith, few, length-map found (λ (f : Found). f.path)) in
          Contains-append_right mid (paths_of found) path (l.right.whole short path u.0 (subst (λ r. is_under r path ≡ true) (sym is) u.1.2))
    ]
  ]),
)

listed-many : (scene : Scene) (files xs roots mid : List (List ℕ)) (root : List ℕ) (found : List Found) → HasListed scene files xs mid → IsListed scene root 20000 found → ((r : List ℕ) → Contains xs r → Contains roots r) → Contains roots root → IsOver mid (paths_of found) → HasTooMany (IsOf scene files roots)
listed-many scene files xs roots mid root found h l sub has (inl over) =
    (paths_of found, l.right.sorted, over, all-of (IsOf scene files roots) (paths_of found) (λ path c. let o = l.right.only path c in inr (o.0, (root, has, o.1))))
listed-many scene files xs roots mid root found h l sub has (inr over) = (
  over.0,
  over.1,
  over.3,
  all-of (IsOf scene files roots) over.0 (λ path c. elim (Contains-append_cases mid (paths_of found) path ((over.2 path).1 c)) [
    | inl m ↦ elim ((h path).0 m) [ inl f ↦ inl f | inr u ↦ inr (u.0, (u.1.0, sub u.1.0 u.1.1, u.1.2)) ]
    | inr p ↦ let o = l.right.only path p in inr (o.0, (root, has, o.1))
  ]),
)

take-within : (xs : List (List ℕ)) (i : ℕ) (r : List ℕ) → Contains (take i xs) r → Contains xs r
take-within xs i r c = subst (λ ys. Contains ys r) (take-append-drop i xs) (Contains-append_left (take i xs) (drop i xs) r c)

blames-lists : (files roots : List (List ℕ)) (fault : SightFault) (st : Stretch) → BlamesSight fault st → BlamesLists files roots (fault_of fault) st
blames-lists files roots (Lost path) st h = h
blames-lists files roots (Changed change) st h = h
blames-lists files roots OutOfMemory st h = tt

blames-more : (files roots : List (List ℕ)) (fault : GatherFault) (Over : Type 0) (st : Stretch) → HasView st → Shown st (λ scene. Over → HasTooMany (IsOf scene files roots)) → OnlyTooMany Over fault → BlamesLists files roots fault st
blames-more files roots (TooLarge limit n path) Over st view f h = (h.0, view, λ scene shows. f scene shows h.1)
blames-more files roots (InputMissing path) Over st view f h = absurd h
blames-more files roots (SourceFault path) Over st view f h = absurd h
blames-more files roots (InputChanged change) Over st view f h = absurd h
blames-more files roots (NotRemotable cause) Over st view f h = absurd h
blames-more files roots (Blocked path) Over st view f h = absurd h
blames-more files roots NoMemory Over st view f h = tt

-- ---- all declared inputs

not_dir : (look : Look) → is_file look ≡ true → is_dir look ≡ true → ⊥
not_dir (File stamp executable) t d = true≢false (sym d)
not_dir Absent t d = true≢false (sym t)
not_dir Dir t d = true≢false (sym t)
not_dir Other t d = true≢false (sym t)

below_case : (b : Bool) (path dir : List ℕ) (scene : Scene) → is_file (scene.look path) ≡ true → is_dir (scene.look dir) ≡ true → (b || bytes_eq path dir) ≡ true → b ≡ true
below_case true path dir scene t d u = refl
below_case false path dir scene t d u = absurd (not_dir (scene.look path) t (subst (λ p. is_dir (scene.look p) ≡ true) (sym ((bytes_eq-Decides path dir).0 u)) d))

declared-looked : (scene : Scene) (inputs roots : List (List ℕ)) (looked : LookedInputs) (path : List ℕ) → IsLooked scene inputs looked → IsOf scene looked.files looked.dirs path → IsDeclared scene inputs roots path
declared-looked scene inputs roots looked path h (inl c) =
    let a = among-from_filter (λ p. is_file (scene.look p)) path inputs (subst (λ fs. Among path fs) h.files (Among-from_contains path looked.files c)) in
    (a.1, inl (path, Contains-from_among path inputs a.0, inl refl))
declared-looked scene inputs roots looked path h (inr u) =
    let a = among-from_filter (λ p. is_dir (scene.look p)) u.1.0 inputs (subst (λ fs. Among u.1.0 fs) h.dirs (Among-from_contains u.1.0 looked.dirs u.1.1)) in
    (u.0, inl (u.1.0, Contains-from_among u.1.0 inputs a.0, inr (a.1, below_case (is_below path u.1.0) path u.1.0 scene u.0 a.1 u.1.2)))

declared-listed : (scene : Scene) (inputs roots first : List (List ℕ)) (looked : LookedInputs) (path : List ℕ) → IsLooked scene inputs looked → HasListed scene looked.files looked.dirs first → IsOf scene first roots path → IsDeclared scene inputs roots path
declared-listed scene inputs roots first looked path h l (inl c) = declared-looked scene inputs roots looked path h ((l path).0 c)
declared-listed scene inputs roots first looked path h l (inr u) = (u.0, inr u.1)

of_declared : (scene : Scene) (inputs roots first : List (List ℕ)) (looked : LookedInputs) (path : List ℕ) → IsLooked scene inputs looked → HasListed scene looked.files looked.dirs first → IsDeclared scene inputs roots path → IsOf scene first roots path
of_declared scene inputs roots first looked path h l (t, inr u) = inr (t, u)
of_declared scene inputs roots first looked path h l (t, inl (input, c, inl e)) =
    let a = among-filter (λ p. is_file (scene.look p)) path inputs (Among-from_contains path inputs (subst (λ p. Contains inputs p) (sym e) c)) t in
    inl ((l path).1 (inl (Contains-from_among path looked.files (subst (λ fs. Among path fs) (sym h.files) a))))
of_declared scene inputs roots first looked path h l (t, inl (input, c, inr b)) =
    let a = among-filter (λ p. is_dir (scene.look p)) input inputs (Among-from_contains input inputs c) b.0 in
    inl ((l path).1 (inr (t, (input, Contains-from_among input looked.dirs (subst (λ fs. Among input fs) (sym h.dirs) a), rw b.1 refl))))

pub any-contains : (p : List ℕ → Bool) (xs : List (List ℕ)) (x : List ℕ) → Contains xs x → p x ≡ true → list_any p xs ≡ true
any-contains p xs x c t = list_any_at p xs c.0 x c.1 (subst (λ y. p y ≡ true) (sym c.2) t)

pub false_not : (b : Bool) → not b ≡ true → b ≡ false
false_not true e = absurd (true≢false (sym e))
false_not false e = refl

pub not_true : (b : Bool) → (b ≡ true → ⊥) → b ≡ false
not_true true f = absurd (f refl)
not_true false f = refl

declared-by : (scene : Scene) (inputs roots first all files empty : List (List ℕ)) (looked : LookedInputs) → IsLooked scene inputs looked → HasListed scene looked.files looked.dirs first → HasListed scene first roots all → HasSameMembers all files → empty ≡ empty_among files looked.dirs
    → IsDeclaredBy scene inputs roots (record { files = files; empty_dirs = empty })
declared-by scene inputs roots first all files empty looked h l m same e =
    let to : (path : List ℕ) → Contains files path → IsDeclared scene inputs roots path = λ path c. declared-listed scene inputs roots first looked path h l ((m path).0 ((same path).1 c)) in
    let from : (path : List ℕ) → IsDeclared scene inputs roots path → Contains files path = λ path d. (same path).0 ((m path).1 (of_declared scene inputs roots first looked path h l d)) in
    let p : List ℕ → Bool = λ dir. not (list_any (λ file. is_below file dir) files) in
    record {
      there = h.there;
      files = λ path. (to path, from path);
      empty = λ dir. (
        λ c.
            let a = among-from_filter p dir looked.dirs (Among-from_contains dir (empty_among files looked.dirs) (subst (λ ds. Contains ds dir) e c)) in
            let d = among-from_filter (λ x. is_dir (scene.look x)) dir inputs (subst (λ ds. Among dir ds) h.dirs a.0) in
            let none = false_not (list_any (λ file. is_below file dir) files) a.1 in
            let has = Contains-from_among dir inputs d.0 in
            (has, d.1, λ path t. not_true (is_below path dir) (λ below. absurd (true≢false (sym (any-contains (λ file. is_below file dir) files path (from path (t, inl (dir, has, inr (d.1, below)))) below) ∙ none)))),
        λ d.
            let a = among-filter (λ x. is_dir (scene.look x)) dir inputs (Among-from_contains dir inputs d.0) d.1 in
            let none : list_any (λ file. is_below file dir) files ≡ false = list_any_none (λ file. is_below file dir) files (all-of (λ path. is_below path dir ≡ false) files (λ path c. d.2 path (to path c).0)) in
            let kept = among-filter p dir looked.dirs (subst (λ ds. Among dir ds) (sym h.dirs) a) (ap not none) in
            subst (λ ds. Contains ds dir) (sym e) (Contains-from_among dir (empty_among files looked.dirs) kept),
      );
    }

-- a refusal of the lists is one of the inputs
blames-inputs : (old mid new : Sights) (files those inputs roots : List (List ℕ)) (P : Scene → Type 0) (fa fb fc : ℕ) (fault : GatherFault) (xs ys : List Given) (ls ms : List Listing) → fa ≤ fb
    → ((scene : Scene) → P scene → first_missing scene inputs ≡ None)
    → ((scene : Scene) → P scene → (path : List ℕ) → IsOf scene files those path → IsDeclared scene inputs roots path)
    → Notes old mid xs → ((scene : Scene) → Shows scene old xs ls → P scene) → BlamesLists files those fault (stretch mid new fb fc ys ms)
    → BlamesInputs inputs roots fault (stretch old new fa fc (xs ++ ys) (ls ++ ms))
blames-inputs old mid new files those inputs roots P fa fb fc (TooLarge limit n path) xs ys ls ms le there f notes fact h = (
  h.0,
  notes-join old mid new xs ys notes h.1,
  λ scene shows.
      let here = fact scene (shows-first scene old xs ys ls ms shows) in
      (there scene here, many-so (IsOf scene files those) (IsDeclared scene inputs roots) (f scene here) (h.2 scene (shows-then scene old mid xs ys ls ms notes shows))),
)
blames-inputs old mid new files those inputs roots P fa fb fc (InputMissing path) xs ys ls ms le there f notes fact h = absurd h
blames-inputs old mid new files those inputs roots P fa fb fc (SourceFault path) xs ys ls ms le there f notes fact h = omega (arith, le, h)
blames-inputs old mid new files those inputs roots P fa fb fc (InputChanged change) xs ys ls ms le there f notes fact h = differed-later old mid xs ys change notes h
blames-inputs old mid new files those inputs roots P fa fb fc (NotRemotable cause) xs ys ls ms le there f notes fact h = absurd h
blames-inputs old mid new files those inputs roots P fa fb fc (Blocked path) xs ys ls ms le there f notes fact h = absurd h
blames-inputs old mid new files those inputs roots P fa fb fc NoMemory xs ys ls ms le there f notes fact h = tt

declared-more : (scene : Scene) (inputs roots : List (List ℕ)) (path : List ℕ) → IsDeclared scene inputs [] path → IsDeclared scene inputs roots path
declared-more scene inputs roots path (t, inl i) = (t, inl i)
declared-more scene inputs roots path (t, inr u) = absurd (omega (arith, u.1.1))

with_roots : (inputs roots : List (List ℕ)) (fault : GatherFault) (st : Stretch) → BlamesInputs inputs [] fault st → BlamesInputs inputs roots fault st
with_roots inputs roots (TooLarge limit n path) st h =
    (h.0, h.1, λ scene shows. let k = h.2 scene shows in (k.0, many-so (IsDeclared scene inputs []) (IsDeclared scene inputs roots) (λ p d. declared-more scene inputs roots p d) k.1))
with_roots inputs roots (InputMissing path) st h = h
with_roots inputs roots (SourceFault path) st h = h
with_roots inputs roots (InputChanged change) st h = h
with_roots inputs roots (NotRemotable cause) st h = h
with_roots inputs roots (Blocked path) st h = h
with_roots inputs roots NoMemory st h = h

-- what was looked at and what was listed
pub record IsLookedListed (scene : Scene) (inputs : List (List ℕ)) (looked : LookedInputs) (first : List (List ℕ)) : Type 0 where
  pub looked_at : IsLooked scene inputs looked
  pub has_listed : HasListed scene looked.files looked.dirs first

module _ {T W : Type 0} (w : world.Ghosts W) (s : sources.Ghosts T W) where
  pub list-start : (a : T) (old : Sights) (files roots : List (List ℕ)) → Learns w s a a old old (λ scene. HasListed scene files (take 0 roots) files)
  list-start a old files roots =
      learns-none w s a old (λ scene. HasListed scene files (take 0 roots) files)
      (λ scene right path. (λ c. inl c, λ e. elim e [ inl c ↦ c | inr u ↦ absurd (nothing_under scene path u) ]))

  pub list-more : (a b c : T) (old mid new : Sights) (files roots before next : List (List ℕ)) (i : ℕ) (root : List ℕ) (found : List Found) → i < length roots → root ≡ get_or roots i root
      → Learns w s a b old mid (λ scene. HasListed scene files (take i roots) before) → Learns w s b c mid new (λ scene. IsListed scene root 20000 found)
      → length found ≤ 20000 → HasSameMembers (before ++ paths_of found) next
      → Learns w s a c old new (λ scene. HasListed scene files (take (i + 1) roots) next)
  list-more a b c old mid new files roots before next i root found h e l m few same =
      learns-join w s a b c old mid new (λ scene. HasListed scene files (take i roots) before) (λ scene. IsListed scene root 20000 found) (λ scene. HasListed scene files (take (i + 1) roots) next) l m
      (λ scene x y. subst (λ rs. HasListed scene files rs next) (sym (taken roots i root h e)) (listed-more scene files (take i roots) before next root found x y few same))

  pub list-failed : (a b c : T) (old mid new : Sights) (P : Scene → Type 0) (files roots : List (List ℕ)) (fault : SightFault)
      → Learns w s a b old mid P → Fails w s b c mid new (BlamesSight fault) → Fails w s a c old new (BlamesLists files roots (fault_of fault))
  list-failed a b c old mid new P files roots fault l f =
      fails-join w s a b c old mid new P (BlamesSight fault) (BlamesLists files roots (fault_of fault)) l f
      (λ xs ys ls ms le n p cause. blames-lists files roots fault (stretch old new (s.faults a) (s.faults c) (xs ++ ys) (ls ++ ms)) (blames-later old mid xs ys (s.faults a) (s.faults b) (s.faults c) fault n le cause))

  pub list-many : (a b c : T) (old mid new : Sights) (files roots before : List (List ℕ)) (i : ℕ) (root : List ℕ) (found : List Found) (fault : GatherFault) → i < length roots → root ≡ get_or roots i root
      → Learns w s a b old mid (λ scene. HasListed scene files (take i roots) before) → Learns w s b c mid new (λ scene. IsListed scene root 20000 found)
      → OnlyTooMany (IsOver before (paths_of found)) fault
      → Fails w s a c old new (BlamesLists files roots fault)
  list-many a b c old mid new files roots before i root found fault h e l m many =
      let Over : Type 0 = IsOver before (paths_of found) in
      fails-after w s a c old new (λ scene. Over → HasTooMany (IsOf scene files roots)) (BlamesLists files roots fault)
      (learns-join w s a b c old mid new (λ scene. HasListed scene files (take i roots) before) (λ scene. IsListed scene root 20000 found) (λ scene. Over → HasTooMany (IsOf scene files roots)) l m
      (λ scene x y over. listed-many scene files (take i roots) roots before root found x y (take-within roots i) (subst (λ p. Contains roots p) (sym e) (Contains-get_or roots i root h)) over))
      (λ xs ls n fact. blames-more files roots fault Over (stretch old new (s.faults a) (s.faults c) xs ls) n fact many)

  pub inputs-failed : (a b : T) (old new : Sights) (inputs roots : List (List ℕ)) (fault : GatherFault) → Fails w s a b old new (BlamesInputs inputs [] fault) → Fails w s a b old new (BlamesInputs inputs roots fault)
  inputs-failed a b old new inputs roots fault f = fails-so w s a b old new (BlamesInputs inputs [] fault) (BlamesInputs inputs roots fault) f (λ st h. with_roots inputs roots fault st h)

  pub dirs-failed : (a b c : T) (old mid new : Sights) (inputs roots : List (List ℕ)) (looked : LookedInputs) (fault : GatherFault) → Learns w s a b old mid (λ scene. IsLooked scene inputs looked)
      → Fails w s b c mid new (BlamesLists looked.files looked.dirs fault) → Fails w s a c old new (BlamesInputs inputs roots fault)
  dirs-failed a b c old mid new inputs roots looked fault l f =
      fails-join w s a b c old mid new (λ scene. IsLooked scene inputs looked) (BlamesLists looked.files looked.dirs fault) (BlamesInputs inputs roots fault) l f
      (λ xs ys ls ms le n p cause. blames-inputs old mid new looked.files looked.dirs inputs roots (λ scene. IsLooked scene inputs looked) (s.faults a) (s.faults b) (s.faults c) fault xs ys ls ms le (λ scene h. h.there) (λ scene h path o. declared-looked scene inputs roots looked path h o) n p cause)

  pub dirs-listed : (a b c : T) (old mid new : Sights) (inputs first : List (List ℕ)) (looked : LookedInputs) → Learns w s a b old mid (λ scene. IsLooked scene inputs looked)
      → Learns w s b c mid new (λ scene. HasListed scene looked.files looked.dirs first) → Learns w s a c old new (λ scene. IsLookedListed scene inputs looked first)
  dirs-listed a b c old mid new inputs first looked l m =
      learns-join w s a b c old mid new (λ scene. IsLooked scene inputs looked) (λ scene. HasListed scene looked.files looked.dirs first) (λ scene. IsLookedListed scene inputs looked first) l m
      (λ scene x y. record { looked_at = x; has_listed = y })

  pub roots-failed : (a b c : T) (old mid new : Sights) (inputs roots first : List (List ℕ)) (looked : LookedInputs) (fault : GatherFault) → Learns w s a b old mid (λ scene. IsLookedListed scene inputs looked first)
      → Fails w s b c mid new (BlamesLists first roots fault) → Fails w s a c old new (BlamesInputs inputs roots fault)
  roots-failed a b c old mid new inputs roots first looked fault l f =
      fails-join w s a b c old mid new (λ scene. IsLookedListed scene inputs looked first) (BlamesLists first roots fault) (BlamesInputs inputs roots fault) l f
      (λ xs ys ls ms le n p cause. blames-inputs old mid new first roots inputs roots (λ scene. IsLookedListed scene inputs looked first) (s.faults a) (s.faults b) (s.faults c) fault xs ys ls ms le (λ scene h. h.looked_at.there)
      (λ scene h path o. declared-listed scene inputs roots first looked path h.looked_at h.has_listed o) n p cause)

  pub all-taken : (a b c : T) (old mid new : Sights) (inputs roots first all files empty : List (List ℕ)) (looked : LookedInputs) → Learns w s a b old mid (λ scene. IsLookedListed scene inputs looked first)
      → Learns w s b c mid new (λ scene. HasListed scene first roots all) → HasSameMembers all files → empty ≡ empty_among files looked.dirs
      → Learns w s a c old new (λ scene. IsDeclaredBy scene inputs roots (record { files = files; empty_dirs = empty }))
  all-taken a b c old mid new inputs roots first all files empty looked l m same e =
      learns-join w s a b c old mid new (λ scene. IsLookedListed scene inputs looked first) (λ scene. HasListed scene first roots all) (λ scene. IsDeclaredBy scene inputs roots (record { files = files; empty_dirs = empty })) l m
      (λ scene x y. declared-by scene inputs roots first all files empty looked x.looked_at x.has_listed y same e)
