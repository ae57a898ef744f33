-- The input tree of a command: its files and directories were seen, and why it is refused.
use Rattle.std.proofs.Common.{◌≡◌, ◌≢◌, ℕ, zero, suc, ◌||◌, ◌⊎◌, inl, inr, Bool, true, false, List, [], ◌∷◌, append-nil, bytes_eq, get_or, refl, sym, ap, subst, ◌∙◌, arith}
use Rattle.std.specs.Prelude.{All, Contains, None, Option, Some, slice_get}
use Rattle.std.specs.Option.{is_some}
use Rattle.std.proofs.lemmas.List.Elements.{All-weaker, recursion_from_All}
use Rattle.std.proofs.lemmas.List.Quantifiers.{position-Some}
use Rattle.std.proofs.lemmas.Slice.Eq.{bytes_eq-Decides}
use Rattle.rx_base.specs.Paths.{is_below}
use Rattle.rx_base.specs.SortedPaths.{AreSorted, first_at_or_above}
use Rattle.rx_world.specs.declared.attempts.Plan.{Plan}
use Rattle.rx_world.specs.declared.commands.Command.{Command}
use Rattle.rx_scan.specs.declared.plans.Choice.{Choice}
use Rattle.rx_world.specs.declared.looks.Look.{Look}
use Rattle.rx_world.specs.declared.looks.Look.TheVariants.{Absent, Dir, File}
use Rattle.rx_world.specs.declared.looks.ChangedInput.{ChangedInput}
use Rattle.rx_world.specs.declared.looks.Stamp.{Stamp}
use Rattle.rx_world.specs.declared.refusals.LocalCause.{LocalCause}
use Rattle.rx_world.specs.declared.sources.Given.{Given}
use Rattle.rx_world.specs.declared.sources.Sources as sources
use Rattle.rx_world.specs.declared.world.World as world
use Rattle.rx_base.proofs.Members.{All-among, Among, Among-from_contains, Contains-from_among}
use Rattle.rx_world.proofs.Among.{among-from_map}
use Rattle.rx_world.proofs.AnswerLemmas.{gives-none}
use Rattle.rx_scan.specs.declared.gather_fault.GatherFault.{GatherFault}
use Rattle.rx_scan.specs.declared.gather_fault.GatherFault.TheVariants.{Blocked, InputChanged, InputMissing, NoMemory, NotRemotable, SourceFault, TooLarge}
use Rattle.rx_scan.specs.declared.seen_files.SeenFile.{SeenFile}
use Rattle.rx_scan.specs.Digests.{IsSeen}
use Rattle.rx_scan.specs.Gathering.{plan_of}
use Rattle.rx_scan.specs.InputTrees.{BlamesTree, BlamesWholeIf, IsFilesIf, paths_of}
use Rattle.rx_scan.specs.Lists.{Fails, Learns, Listing, Shows, Stretch, stretch}
use Rattle.rx_reach.specs.Scenes.{Scene}
use Rattle.rx_scan.specs.SeenDirs.{IsDirSeen}
use Rattle.rx_reach.specs.Sights.{IsChangeFrom, Notes, WasSeen, seen_at}
use Rattle.rx_scan.specs.Ways.{BlamesWay, above_among, blocked, change_above, change_of, over_among, upper_among}
use Rattle.rx_scan.specs.Whole.{BlamesWhole, IsWholeBy}
use Rattle.rx_scan.proofs.BlockedLemmas.{or_cases}
use Rattle.rx_scan.proofs.Learning.{fails-after, fails-always, fails-one, fails-so, learns-none, learns-so}
use Rattle.rx_reach.proofs.SightLemmas.{notes-keep, notes-none, seen-later}

abbrev Sights : Type 0
Sights = List (List ℕ × Look)

-- ---- what was seen

-- what was seen then was seen before or is in the answers
noted-seen : (old new : Sights) (answers : List Given) (path : List ℕ) (look : Look) → Notes old new answers → seen_at new path ≡ Some look → WasSeen old answers path look
noted-seen old new answers path look n e = subst (λ xs. WasSeen old xs path look) (append-nil answers) (seen-later old new answers [] path look n (inl e))

-- ---- a file with something below

below-upper : (files paths : List (List ℕ)) (at : ℕ) → upper_among files paths ≡ Some at → (path : List ℕ) × Contains paths path × (is_below path (get_or files at []) ≡ true)
below-upper files [] at e = absurd (cc e)
below-upper files (path ∷ paths) at e =
    elim (or_cases (above_among files path) (upper_among files paths) at e) [
      | inl here ↦ (path, (0, omega arith, refl), (position-Some (λ file. is_below path file) files at [] here).1)
      | inr there ↦ let h = below-upper files paths at there in (h.0, Contains-from_among h.0 (path ∷ paths) (inr (Among-from_contains h.0 paths h.1)), h.2)
    ]

below-over : (files dirs : List (List ℕ)) (at : ℕ) → over_among files dirs ≡ Some at → (dir : List ℕ) × Contains dirs dir × ((bytes_eq dir (get_or files at []) || is_below dir (get_or files at [])) ≡ true)
below-over files [] at e = absurd (cc e)
below-over files (dir ∷ dirs) at e =
    elim (or_cases (first_at_or_above files dir) (over_among files dirs) at e) [
      | inl here ↦ (dir, (0, omega arith, refl), (position-Some (λ file. bytes_eq dir file || is_below dir file) files at [] here).1)
      | inr there ↦ let h = below-over files dirs at there in (h.0, Contains-from_among h.0 (dir ∷ dirs) (inr (Among-from_contains h.0 dirs h.1)), h.2)
    ]

path-there : (files : List SeenFile) (at : ℕ) (file : SeenFile) → slice_get files at ≡ Some file → (get_or (paths_of files) at [] ≡ file.path) × Among file files
path-there [] at file e = absurd (cc e)
path-there (f ∷ files) zero file e = let same : f ≡ file = cc e in (ap (λ (x : SeenFile). x.path) same, inl same)
path-there (f ∷ files) (suc at) file e = let h = path-there files at file e in (h.0, inr h.1)

-- something that was seen stands below the path
pub record SeenBelow (sights : Sights) (path : List ℕ) : Type 0 where
  pub below : List ℕ
  pub look : Look
  pub under : is_below below path ≡ true
  pub some : look ≢ Absent
  pub seen : seen_at sights below ≡ Some look

below-file : (sights : Sights) (files : List SeenFile) (path upper : List ℕ) → All (IsSeen sights) files → Contains (paths_of files) path → is_below path upper ≡ true → SeenBelow sights upper
below-file sights files path upper seen has under =
    let a = among-from_map (λ (f : SeenFile). f.path) path files (Among-from_contains path (paths_of files) has) in
    let f : SeenFile = a.0 in
    let is : IsSeen sights f = All-among (IsSeen sights) f files (recursion_from_All (IsSeen sights) files seen) a.1 in
    record { below = path; look = File f.stamp f.executable; under = under; some = λ e. absurd (cc e); seen = ap (seen_at sights) (sym a.2) ∙ is }

at-or_below : (b : Bool) (dir upper : List ℕ) (c : Bool) → bytes_eq dir upper ≡ b → (b || c) ≡ true → (dir ≡ upper) ⊎ (c ≡ true)
at-or_below true dir upper c e t = inl ((bytes_eq-Decides dir upper).0 e)
at-or_below false dir upper c e t = inr t

below-dir : (sights : Sights) (dirs : List (List ℕ)) (dir upper : List ℕ) (stamp : Stamp) (executable : Bool) → All (IsDirSeen sights) dirs → Contains dirs dir → seen_at sights upper ≡ Some (File stamp executable) → (bytes_eq dir upper || is_below dir upper) ≡ true → SeenBelow sights upper
below-dir sights dirs dir upper stamp executable seen has here t =
    let is : seen_at sights dir ≡ Some Dir = All-among (IsDirSeen sights) dir dirs (recursion_from_All (IsDirSeen sights) dirs seen) (Among-from_contains dir dirs has) in
    elim (at-or_below (bytes_eq dir upper) dir upper (is_below dir upper) refl t) [
      | inl e ↦ absurd (cc (sym is ∙ ap (seen_at sights) e ∙ here))
      | inr under ↦ record { below = dir; look = Dir; under = under; some = λ e. absurd (cc e); seen = is }
    ]

upper-below : (sights : Sights) (files : List SeenFile) (paths dirs : List (List ℕ)) (at : ℕ) (file : SeenFile) → paths ≡ paths_of files → All (IsSeen sights) files → All (IsDirSeen sights) dirs → slice_get files at ≡ Some file
    → (upper_among paths paths ≡ Some at) ⊎ (over_among paths dirs ≡ Some at) → SeenBelow sights file.path
upper-below sights files paths dirs at file is fs ds here (inl e) =
    let h = below-upper paths paths at e in
    let p = path-there files at file here in
    let there : get_or paths at [] ≡ file.path = ap (λ (ps : List (List ℕ)). get_or ps at []) is ∙ p.0 in
    below-file sights files h.0 file.path fs (subst (λ ps. Contains ps h.0) is h.1) (subst (λ (q : List ℕ). is_below h.0 q ≡ true) there h.2)
upper-below sights files paths dirs at file is fs ds here (inr e) =
    let h = below-over paths dirs at e in
    let p = path-there files at file here in
    let there : get_or paths at [] ≡ file.path = ap (λ (ps : List (List ℕ)). get_or ps at []) is ∙ p.0 in
    let seen : IsSeen sights file = All-among (IsSeen sights) file files (recursion_from_All (IsSeen sights) files fs) p.1 in
    below-dir sights dirs h.0 file.path file.stamp file.executable ds h.1 seen (subst (λ (q : List ℕ). (bytes_eq h.0 q || is_below h.0 q) ≡ true) there h.2)

change-is : (old new : Sights) (answers : List Given) (file : SeenFile) (change : ChangedInput) → Notes old new answers → IsSeen new file → SeenBelow new file.path → InputChanged change ≡ change_above file → IsChangeFrom old answers change
change-is old new answers file change n seen b e =
    let is : change ≡ change_of file = cc e in
    subst (IsChangeFrom old answers) (sym is)
    (record { first_is = sym (n.first file.path) ∙ seen; first_alone = refl; second_alone = refl }, inr (refl, refl, (b.below, b.look, b.under, b.some, noted-seen old new answers b.below b.look n b.seen)))

-- ---- refusals by cases

there-is : (o : Option Plan) (plan : Plan) → o ≡ Some plan → o ≢ None
there-is o plan e n = absurd (cc (sym n ∙ e))

of-way : (old new : Sights) (command : Command) (scanned files : List SeenFile) (paths dirs : List (List ℕ)) (cause : Option LocalCause) (choice : Choice) (before now : ℕ) (fault : GatherFault) (xs : List Given) (ls : List Listing) → Notes old new xs
    → ((scene : Scene) → Shows scene old xs ls → IsFilesIf scene command.outputs scanned (is_some cause) files) → paths ≡ paths_of files → AreSorted (paths_of files) → All (IsSeen new) files → All (IsDirSeen new) dirs → plan_of choice cause ≢ None
    → BlamesWay command files paths dirs fault → BlamesTree command scanned cause choice fault (stretch old new before now xs ls)
of-way old new command scanned files paths dirs cause choice before now (InputChanged change) xs ls n fact is sorted fs ds planned h =
    let p = path-there files h.0 h.1 h.3 in
    let seen : IsSeen new h.1 = All-among (IsSeen new) h.1 files (recursion_from_All (IsSeen new) files fs) p.1 in
    change-is old new xs h.1 change n seen (upper-below new files paths dirs h.0 h.1 is fs ds h.3 (or_cases (upper_among paths paths) (over_among paths dirs) h.0 h.2)) h.4
of-way old new command scanned files paths dirs cause choice before now (Blocked path) xs ls n fact is sorted fs ds planned h =
    let blocks = subst (λ ps. blocked command ps ≡ Some path) is h.2 in
    (planned, n, (files, sorted, fs, blocks), λ scene shows. (files, fact scene shows, sorted, blocks))
of-way old new command scanned files paths dirs cause choice before now (InputMissing path) xs ls n fact is sorted fs ds planned h = absurd h
of-way old new command scanned files paths dirs cause choice before now (SourceFault path) xs ls n fact is sorted fs ds planned h = absurd h
of-way old new command scanned files paths dirs cause choice before now (TooLarge limit m path) xs ls n fact is sorted fs ds planned h = absurd h
of-way old new command scanned files paths dirs cause choice before now (NotRemotable kept) xs ls n fact is sorted fs ds planned h = absurd h
of-way old new command scanned files paths dirs cause choice before now NoMemory xs ls n fact is sorted fs ds planned h = tt

of-whole : (command : Command) (scanned : List SeenFile) (cause : Option LocalCause) (choice : Choice) (fault : GatherFault) (st : Stretch) → is_some cause ≡ true → plan_of choice cause ≢ None → BlamesWhole fault st → BlamesTree command scanned cause choice fault st
of-whole command scanned cause choice (TooLarge limit n path) st e planned h = (e, planned, h.0, h.1, h.2)
of-whole command scanned cause choice (SourceFault path) st e planned h = h
of-whole command scanned cause choice (InputChanged change) st e planned h = (h.0, inl h.1)
of-whole command scanned cause choice (InputMissing path) st e planned h = absurd h
of-whole command scanned cause choice (NotRemotable kept) st e planned h = absurd h
of-whole command scanned cause choice (Blocked path) st e planned h = absurd h
of-whole command scanned cause choice NoMemory st e planned h = tt

of-whole_if : (b : Bool) (command : Command) (scanned : List SeenFile) (cause : Option LocalCause) (choice : Choice) (fault : GatherFault) (st : Stretch) → is_some cause ≡ b → plan_of choice cause ≢ None → BlamesWholeIf b fault st → BlamesTree command scanned cause choice fault st
of-whole_if true command scanned cause choice fault st e planned h = of-whole command scanned cause choice fault st e planned h
of-whole_if false command scanned cause choice fault st e planned h = absurd h

module _ {T W : Type 0} (w : world.Ghosts W) (s : sources.Ghosts T W) where
  -- ---- the files

  pub files-kept : (a b : T) (old new : Sights) (outputs : List (List ℕ)) (scanned files : List SeenFile) (kept : Bool) → kept ≡ true → Learns w s a b old new (λ scene. IsWholeBy scene outputs files) → Learns w s a b old new (λ scene. IsFilesIf scene outputs scanned kept files)
  files-kept a b old new outputs scanned files kept e l =
      learns-so w s a b old new (λ scene. IsWholeBy scene outputs files) (λ scene. IsFilesIf scene outputs scanned kept files) l (λ scene h. subst (λ k. IsFilesIf scene outputs scanned k files) (sym e) h)

  pub files-refused : (a b : T) (old new : Sights) (fault : GatherFault) (kept : Bool) → kept ≡ true → Fails w s a b old new (BlamesWhole fault) → Fails w s a b old new (BlamesWholeIf kept fault)
  files-refused a b old new fault kept e f =
      fails-so w s a b old new (BlamesWhole fault) (BlamesWholeIf kept fault) f (λ st h. subst (λ k. BlamesWholeIf k fault st) (sym e) h)

  pub files-scanned : (a : T) (old : Sights) (outputs : List (List ℕ)) (scanned : List SeenFile) (kept : Bool) → kept ≡ false → Learns w s a a old old (λ scene. IsFilesIf scene outputs scanned kept scanned)
  files-scanned a old outputs scanned kept e =
      learns-none w s a old (λ scene. IsFilesIf scene outputs scanned kept scanned) (λ scene r. subst (λ k. IsFilesIf scene outputs scanned k scanned) (sym e) refl)

  -- ---- the tree

  pub plan-refused : (a : T) (old : Sights) (command : Command) (scanned : List SeenFile) (cause : Option LocalCause) (choice : Choice) (fault : GatherFault) → ((kept : LocalCause) × (fault ≡ NotRemotable kept) × (cause ≡ Some kept) × (plan_of choice cause ≡ None))
      → Fails w s a a old old (BlamesTree command scanned cause choice fault)
  plan-refused a old command scanned cause choice fault h =
      fails-one w s a a old old [] (BlamesTree command scanned cause choice fault) (gives-none w s a)
      (subst (λ f. BlamesTree command scanned cause choice f (stretch old old (s.faults a) (s.faults a) [] [])) (sym h.1) (h.2, h.3, notes-none old))

  pub tree_files-refused : (a b : T) (old new : Sights) (command : Command) (scanned : List SeenFile) (cause : Option LocalCause) (choice : Choice) (fault : GatherFault) (kept : Bool) (plan : Plan) → kept ≡ is_some cause → plan_of choice cause ≡ Some plan → Fails w s a b old new (BlamesWholeIf kept fault)
      → Fails w s a b old new (BlamesTree command scanned cause choice fault)
  tree_files-refused a b old new command scanned cause choice fault kept plan e p f =
      fails-so w s a b old new (BlamesWholeIf kept fault) (BlamesTree command scanned cause choice fault) f (λ st h. of-whole_if kept command scanned cause choice fault st (sym e) (there-is (plan_of choice cause) plan p) h)

  pub tree_files-are : (a b : T) (old new : Sights) (command : Command) (scanned files : List SeenFile) (cause : Option LocalCause) (kept : Bool) → kept ≡ is_some cause → Learns w s a b old new (λ scene. IsFilesIf scene command.outputs scanned kept files)
      → Learns w s a b old new (λ scene. IsFilesIf scene command.outputs scanned (is_some cause) files)
  tree_files-are a b old new command scanned files cause kept e l =
      learns-so w s a b old new (λ scene. IsFilesIf scene command.outputs scanned kept files) (λ scene. IsFilesIf scene command.outputs scanned (is_some cause) files) l (λ scene h. subst (λ k. IsFilesIf scene command.outputs scanned k files) e h)

  pub tree-no_memory : (a b : T) (old mid new : Sights) (P : Scene → Type 0) (command : Command) (scanned : List SeenFile) (cause : Option LocalCause) (choice : Choice) → Learns w s a b old mid P
      → Fails w s a b old new (BlamesTree command scanned cause choice NoMemory)
  tree-no_memory a b old mid new P command scanned cause choice l = fails-always w s a b old mid new P (BlamesTree command scanned cause choice NoMemory) l (λ st. tt)

  pub learned-dirs : (a b : T) (old new : Sights) (P : Scene → Type 0) (dirs : List (List ℕ)) → Learns w s a b old new P → All (IsDirSeen old) dirs → All (IsDirSeen new) dirs
  learned-dirs a b old new P dirs l h = All-weaker (IsDirSeen old) (IsDirSeen new) (λ dir e. notes-keep old new l.answers dir Dir l.notes e) dirs h

  pub way-refused : (a b : T) (old new : Sights) (command : Command) (scanned files : List SeenFile) (paths dirs : List (List ℕ)) (cause : Option LocalCause) (choice : Choice) (plan : Plan) (fault : GatherFault) → plan_of choice cause ≡ Some plan → paths ≡ paths_of files → AreSorted (paths_of files) → All (IsSeen new) files → All (IsDirSeen old) dirs
      → Learns w s a b old new (λ scene. IsFilesIf scene command.outputs scanned (is_some cause) files) → BlamesWay command files paths dirs fault
      → Fails w s a b old new (BlamesTree command scanned cause choice fault)
  way-refused a b old new command scanned files paths dirs cause choice plan fault p is sorted fs ds l h =
      let later = learned-dirs a b old new (λ scene. IsFilesIf scene command.outputs scanned (is_some cause) files) dirs l ds in
      fails-after w s a b old new (λ scene. IsFilesIf scene command.outputs scanned (is_some cause) files) (BlamesTree command scanned cause choice fault) l
      (λ xs ls n fact. of-way old new command scanned files paths dirs cause choice (s.faults a) (s.faults b) fault xs ls n fact is sorted fs later (there-is (plan_of choice cause) plan p) h)
