-- All that a command runs on is what a scene has, and can be staged.
use Rattle.std.proofs.Common.{◌≡◌, ◌≢◌, ℕ, ◌||◌, ◌⊎◌, inl, inr, Bool, true, false, List, [], ◌∷◌, ◌++◌, bytes_eq, get_or, length, map, refl, sym, ap, subst, ◌∙◌, arith, true≢false}
use Rattle.std.specs.Prelude.{All, Contains, None, Ok, Option, Some, ◌↔◌}
use Rattle.std.specs.Cmp.Lexicographic.{nat_list_cmp_total}
use Rattle.std.specs.FinMap.{nat_cmp-IsAntisymmetric, slice_cmp-IsAntisymmetric}
use Rattle.std.specs.List.{AllByRecursion, list_any}
use Rattle.std.specs.Option.{is_some, option_map, option_or}
use Rattle.std.proofs.lemmas.List.{length-map}
use Rattle.std.proofs.lemmas.List.Elements.{All-from_recursion, Contains-append_cases, Contains-get_or, recursion_from_All}
use Rattle.std.proofs.lemmas.Slice.Eq.{bytes_eq-Decides}
use Rattle.rx_base.specs.Paths.{is_below}
use Rattle.rx_base.specs.SortedPaths.{AreSorted, first_at_or_above, sorted_paths}
use Rattle.rx_base.proofs.Orders.{HasSameMembers-sorted_once}
use Rattle.rx_base.proofs.SortedSearch.{position_is_any}
use Rattle.rx_cppflags.specs.declared.readings.Reading.{Reading}
use Rattle.rx_cppflags.specs.declared.readings.Reading.TheVariants as reading
use Rattle.rx_cppflags.specs.Readings.{IsSafeOutput}
use Rattle.rx_world.specs.declared.attempts.Plan.{Plan}
use Rattle.rx_world.specs.declared.commands.Command.{Command}
use Rattle.rx_world.specs.declared.input_files.InputFile.{InputFile}
use Rattle.rx_world.specs.declared.looks.Look.{Look}
use Rattle.rx_world.specs.declared.looks.Look.TheVariants.{File}
use Rattle.rx_world.specs.declared.refusals.LocalCause.{LocalCause}
use Rattle.rx_world.specs.declared.refusals.LocalCause.TheVariants as local
use Rattle.rx_world.specs.declared.sources.Sources as sources
use Rattle.rx_world.specs.declared.world.World as world
use Rattle.rx_base.proofs.Members.{All-among, Among, Among-from_contains}
use Rattle.rx_scan.specs.declared.gathering.Gathered.{Gathered}
use Rattle.rx_scan.specs.declared.input_trees.InputTree.{InputTree}
use Rattle.rx_scan.specs.declared.scanned.Scanned.{Scanned}
use Rattle.rx_scan.specs.declared.seen_files.SeenFile.{SeenFile}
use Rattle.rx_scan.specs.declared.words.WordMeaning.{WordMeaning}
use Rattle.rx_scan.specs.Digests.{seen_file}
use Rattle.rx_scan.specs.Gathering.{AreApart, Asked, Gathers, IsGathered, IsInput, IsInputDir, IsOrderly, IsPlanned, MayKeep, command_asked, plan_of, reading_asked, meaning_asked}
use Rattle.rx_scan.specs.InputTrees.{IsFilesIf, IsOrderlyTree, cause_of, paths_of}
use Rattle.rx_scan.specs.Lists.{Learns}
use Rattle.rx_scan.specs.Scanned.{IsScanOf}
use Rattle.rx_reach.specs.Scans.{Scans}
use Rattle.rx_reach.specs.Explored.{AreSeen}
use Rattle.rx_reach.specs.Scenes.{Always, Scene}
use Rattle.rx_reach.specs.Sights.{sights_of}
use Rattle.rx_scan.specs.Ways.{above_among, blocked, blocked_in, over_among, upper_among}
use Rattle.rx_scan.specs.Whole.{IsSeenIn}
use Rattle.rx_scan.specs.Words.{search_for, with_outputs, word_for}
use Rattle.rx_scan.proofs.DeclaredSteps.{any-contains}
use Rattle.rx_scan.proofs.GatherSteps.{inputs-so, kept-so, within-so}
use Rattle.rx_scan.proofs.Learning.{learns-join, learns-scans}
use Rattle.rx_reach.proofs.OpenedLemmas.{opened-reached}

abbrev Sights : Type 0
Sights = List (List ℕ × Look)

abbrev inputs_of : List InputFile → List (List ℕ)
inputs_of files = map (λ file. file.path) files

-- ---- the files with their digests

same-paths : (inputs : List InputFile) (files : List SeenFile) → map seen_file inputs ≡ files → inputs_of inputs ≡ paths_of files
same-paths inputs files e = each inputs ∙ ap paths_of e
  where
    each : (xs : List InputFile) → inputs_of xs ≡ paths_of (map seen_file xs)
    each [] = refl
    each (x ∷ xs) = ap (λ ps. x.path ∷ ps) (each xs)

same-looks : (scene : Scene) (inputs : List InputFile) (files : List SeenFile) → map seen_file inputs ≡ files → All (IsSeenIn scene) files → All (λ file. scene.look file.path ≡ File file.stamp file.executable) inputs
same-looks scene inputs files e h =
    All-from_recursion (λ (file : InputFile). scene.look file.path ≡ File file.stamp file.executable) inputs
    (each inputs (recursion_from_All (IsSeenIn scene) (map seen_file inputs) (subst (λ fs. All (IsSeenIn scene) fs) (sym e) h)))
  where
    each : (xs : List InputFile) → AllByRecursion (IsSeenIn scene) (map seen_file xs) → AllByRecursion (λ file. scene.look file.path ≡ File file.stamp file.executable) xs
    each [] a = tt
    each (x ∷ xs) a = (a.0, each xs a.1)

-- ---- in a scene

tree-looks : (scene : Scene) (asked : Asked) (scanned : Scanned) (cause : Option LocalCause) (files : List SeenFile) → IsScanOf scene asked.inputs (meaning_asked asked) scanned → IsFilesIf scene (command_asked asked).outputs scanned.files (is_some cause) files → All (IsSeenIn scene) files
tree-looks scene asked scanned None files h f = subst (λ (fs : List SeenFile). All (IsSeenIn scene) fs) (sym f) h.list.looks
tree-looks scene asked scanned (Some cause) files h f = f.looks

abbrev HasDirs : Command → List (List ℕ) → List (List ℕ) → Type 0
HasDirs command beside dirs = (path : List ℕ) → Contains dirs path ↔ ((path ≢ []) × (Contains beside path ⊎ (path ≡ command.working_directory)))

dirs-so : (scene : Scene) (asked : Asked) (scanned : Scanned) (dirs : List (List ℕ)) → IsScanOf scene asked.inputs (meaning_asked asked) scanned → HasDirs (command_asked asked) scanned.dirs dirs → (path : List ℕ) → Contains dirs path ↔ IsInputDir scene asked path
dirs-so scene asked scanned dirs h d path = (
  λ c.
      let k = (d path).0 c in (
        k.0,
        elim k.1 [
          | inl b ↦ let o = (h.dirs path).0 b in elim o.1 [ inl e ↦ inr (inl e) | inr l ↦ inr (inr l) ]
          | inr w ↦ inl w
        ],
      ),
  λ i. (d path).1 (
    i.0,
    elim i.1 [
      | inl w ↦ inr w
      | inr o ↦ elim o [
        | inl e ↦ inl ((h.dirs path).1 (i.0, inl e))
        | inr l ↦ inl ((h.dirs path).1 (i.0, inr l))
      ]
    ],
  ),
)

pub gathered-so : (scene : Scene) (asked : Asked) (scanned : Scanned) (files : List SeenFile) (gathered : Gathered) → IsScanOf scene asked.inputs (meaning_asked asked) scanned
    → IsFilesIf scene (command_asked asked).outputs scanned.files (is_some (cause_of (meaning_asked asked).word scanned.hard)) files
    → plan_of asked.choice (cause_of (meaning_asked asked).word scanned.hard) ≡ Some gathered.plan → HasDirs (command_asked asked) scanned.dirs gathered.dirs → map seen_file gathered.files ≡ files → IsGathered scene asked gathered
gathered-so scene asked scanned files gathered h f p d same =
    let cause = cause_of (meaning_asked asked).word scanned.hard in
    let paths : inputs_of gathered.files ≡ paths_of files = same-paths gathered.files files same in
    let is = inputs-so scene asked scanned cause files h f in
    let to : (path : List ℕ) → Contains (inputs_of gathered.files) path → IsInput scene asked cause path = λ path c. (is path).0 (subst (λ ps. Contains ps path) paths c) in
    let from : (path : List ℕ) → IsInput scene asked cause path → Contains (inputs_of gathered.files) path = λ path i. subst (λ ps. Contains ps path) (sym paths) ((is path).1 i) in
    record {
      cause = cause;
      kept = kept-so scene asked scanned h;
      plan_is = p;
      there = h.there;
      files = λ path. (to path, from path);
      looks = same-looks scene gathered.files files same (tree-looks scene asked scanned cause files h f);
      dirs = dirs-so scene asked scanned gathered.dirs h d;
      opened = λ none search e path o. from path (subst (λ c. IsInput scene asked c path) (sym none) (inr (search, e, opened-reached scene search path o)));
      within = within-so scene asked scanned cause files h f;
    }

-- ---- whatever was told

none-found : (o : Option ℕ) → o ≡ None → is_some o ≡ false
none-found o e = ap is_some e

or_none : (a b : Option ℕ) → option_or a b ≡ None → (a ≡ None) × (b ≡ None)
or_none None b e = (refl, e)
or_none (Some at) b e = absurd (cc e)

none-above : (files paths : List (List ℕ)) (lower upper : List ℕ) → upper_among files paths ≡ None → Among lower paths → Contains files upper → is_below lower upper ≡ true → ⊥
none-above files [] lower upper e a c t = a
none-above files (path ∷ paths) lower upper e a c t =
    let o = or_none (above_among files path) (upper_among files paths) e in
    elim a [
      | inl is ↦
          let any = any-contains (λ file. is_below path file) files upper c (subst (λ (p : List ℕ). is_below p upper ≡ true) (sym is) t) in
          true≢false (sym any ∙ sym (position_is_any (λ file. is_below path file) files) ∙ ap is_some o.0)
      | inr there ↦ none-above files paths lower upper o.1 there c t
    ]

none-over : (files dirs : List (List ℕ)) (dir file : List ℕ) → over_among files dirs ≡ None → Among dir dirs → Contains files file → (bytes_eq dir file || is_below dir file) ≡ true → ⊥
none-over files [] dir file e a c t = a
none-over files (d ∷ dirs) dir file e a c t =
    let o = or_none (first_at_or_above files d) (over_among files dirs) e in
    elim a [
      | inl is ↦
          let any = any-contains (λ f. bytes_eq d f || is_below d f) files file c (subst (λ (p : List ℕ). (bytes_eq p file || is_below p file) ≡ true) (sym is) t) in
          true≢false (sym any ∙ sym (position_is_any (λ f. bytes_eq d f || is_below d f) files) ∙ ap is_some o.0)
      | inr there ↦ none-over files dirs dir file o.1 there c t
    ]

or_left : (a b : Bool) → a ≡ true → (a || b) ≡ true
or_left true b e = refl
or_left false b e = absurd (true≢false (sym e))

or_right : (a b : Bool) → b ≡ true → (a || b) ≡ true
or_right true b e = refl
or_right false b e = e

either-way : (dir file : List ℕ) → (dir ≡ file) ⊎ (is_below dir file ≡ true) → (bytes_eq dir file || is_below dir file) ≡ true
either-way dir file (inl e) = or_left (bytes_eq dir file) (is_below dir file) ((bytes_eq-Decides dir file).1 e)
either-way dir file (inr t) = or_right (bytes_eq dir file) (is_below dir file) t

not_blocked : (b : Bool) (command : Command) (files : List (List ℕ)) → blocked_in b command files ≡ None → b ≡ false
not_blocked true command files e = absurd (cc e)
not_blocked false command files e = refl

none-here : (command : Command) (files : List (List ℕ)) (file : List ℕ) → blocked command files ≡ None → Contains files file → (bytes_eq command.working_directory file || is_below command.working_directory file) ≡ true → ⊥
none-here command files file e c t =
    let any = any-contains (λ f. bytes_eq command.working_directory f || is_below command.working_directory f) files file c t in
    true≢false (sym any ∙ not_blocked (list_any (λ f. bytes_eq command.working_directory f || is_below command.working_directory f) files) command files e)

-- ---- the outputs

in-sorted : (paths : List (List ℕ)) (path : List ℕ) → Contains (sorted_paths paths) path → Contains paths path
in-sorted paths path c = (HasSameMembers-sorted_once nat_list_cmp_total (slice_cmp-IsAntisymmetric nat_cmp-IsAntisymmetric) paths path).1 c

outputs-below : (command : Command) (inputs outputs : List (List ℕ)) → AllByRecursion (IsSafeOutput command inputs outputs) outputs → All (λ output. is_below output command.working_directory ≡ true) command.outputs
    → All (λ output. is_below output command.working_directory ≡ true) (with_outputs command outputs).outputs
outputs-below command inputs outputs safe own =
    λ k d lt.
    let all = sorted_paths (command.outputs ++ outputs) in
    let path = get_or all k d in
    elim (Contains-append_cases command.outputs outputs path (in-sorted (command.outputs ++ outputs) path (Contains-get_or all k d lt))) [
      | inl c ↦ All-among (λ output. is_below output command.working_directory ≡ true) path command.outputs (recursion_from_All (λ output. is_below output command.working_directory ≡ true) command.outputs own) (Among-from_contains path command.outputs c)
      | inr c ↦ let s : IsSafeOutput command inputs outputs path = All-among (IsSafeOutput command inputs outputs) path outputs safe (Among-from_contains path outputs c) in s.below
    ]

outputs-apart : (command : Command) (inputs outputs : List (List ℕ)) → AllByRecursion (IsSafeOutput command inputs outputs) outputs → AreApart command.outputs → AreApart (with_outputs command outputs).outputs
outputs-apart command inputs outputs safe own upper lower u l t =
    let uc = in-sorted (command.outputs ++ outputs) upper u in
    let lc = in-sorted (command.outputs ++ outputs) lower l in
    let apart : (path other : List ℕ) → Contains outputs path → Contains (command.outputs ++ outputs) other → (is_below path other ≡ false) × (is_below other path ≡ false) =
    λ path other p o.
    let s : IsSafeOutput command inputs outputs path = All-among (IsSafeOutput command inputs outputs) path outputs safe (Among-from_contains path outputs p) in
    All-among (λ x. (is_below path x ≡ false) × (is_below x path ≡ false)) other (command.outputs ++ outputs) s.apart (Among-from_contains other (command.outputs ++ outputs) o)
    in
    elim (Contains-append_cases command.outputs outputs upper uc) [
      | inl a ↦ elim (Contains-append_cases command.outputs outputs lower lc) [
        | inl b ↦ own upper lower a b t
        | inr b ↦ true≢false (sym t ∙ (apart lower upper b uc).0)
      ]
      | inr a ↦ true≢false (sym t ∙ (apart upper lower a lc).1)
    ]

pub orderly-so : (asked : Asked) (inputs outputs beside : List (List ℕ)) (tree : InputTree) (gathered : Gathered) → gathered.command ≡ command_asked asked → gathered.command ≡ with_outputs asked.command outputs → AllByRecursion (IsSafeOutput asked.command inputs outputs) outputs
    → IsOrderlyTree gathered.command beside tree → gathered.dirs ≡ tree.dirs → map seen_file gathered.files ≡ tree.files → AreSorted (map (λ found. found.path) gathered.view) → IsPlanned asked gathered.plan → IsOrderly asked gathered
orderly-so asked inputs outputs beside tree gathered e w safe t ds same view planned =
    let paths : inputs_of gathered.files ≡ paths_of tree.files = same-paths gathered.files tree.files same in
    let there : (path : List ℕ) → Contains (inputs_of gathered.files) path → Contains (paths_of tree.files) path = λ path c. subst (λ ps. Contains ps path) paths c in
    record {
      command_is = e;
      planned = planned;
      few = omega (arith, t.few, ap length same, length-map gathered.files seen_file);
      sorted = subst AreSorted (sym paths) t.sorted;
      sorted_dirs = subst AreSorted (sym ds) t.sorted_dirs;
      sorted_view = view;
      apart = λ upper lower u l below. none-above (paths_of tree.files) (paths_of tree.files) lower upper t.apart (Among-from_contains lower (paths_of tree.files) (there lower l)) (there upper u) below;
      clear = λ file dir f d way.
          let k = (t.dirs dir).0 (subst (λ ps. Contains ps dir) ds d) in
          elim k.1 [
            | inl b ↦ none-over (paths_of tree.files) beside dir file t.clear (Among-from_contains dir beside b) (there file f) (either-way dir file way)
            | inr is ↦ none-here gathered.command (paths_of tree.files) file t.free (there file f) (subst (λ (p : List ℕ). (bytes_eq p file || is_below p file) ≡ true) is (either-way dir file way))
          ];
      free = ap (blocked gathered.command) paths ∙ t.free;
      outputs_apart = λ own. subst (λ (c : Command). AreApart c.outputs) (sym w) (outputs-apart asked.command inputs outputs safe own);
      outputs_below = λ own. subst (λ (c : Command). All (λ output. is_below output asked.command.working_directory ≡ true) c.outputs) (sym w) (outputs-below asked.command inputs outputs safe own);
    }

-- ---- the plan

may-keep : (command : Command) (read : Option Reading) (hard : Option (List ℕ)) → (search_for command read ≡ None → hard ≡ None) → MayKeep read (cause_of (word_for read) hard)
may-keep command None hard h = ap (option_map (λ path. local.Path path)) (h refl)
may-keep command (Some (reading.Compile source quote_dirs dirs forced walked sysroots outputs is_c)) hard h = (hard, refl)
may-keep command (Some (reading.LocalOnly word outputs)) hard h = refl

pub planned-so : (asked : Asked) (meaning : WordMeaning) (hard : Option (List ℕ)) (cause : Option LocalCause) (plan : Plan) → meaning ≡ meaning_asked asked → cause ≡ cause_of (meaning_asked asked).word hard → (meaning.search ≡ None → hard ≡ None)
    → plan_of asked.choice cause ≡ Some plan → IsPlanned asked plan
planned-so asked meaning hard cause plan e k unsought p = (
  cause_of (meaning_asked asked).word hard,
  may-keep asked.command (reading_asked asked) hard (λ none. unsought (ap (λ (s : WordMeaning). s.search) e ∙ none)),
  subst (λ (o : Option LocalCause). plan_of asked.choice o ≡ Some plan) k p,
)

-- ---- over the steps

-- what was scanned, and the files that the tree has
pub record IsScannedTree (scene : Scene) (asked : Asked) (scanned : Scanned) (command : Command) (cause : Option LocalCause) (files : List SeenFile) : Type 0 where
  pub scans : IsScanOf scene asked.inputs (meaning_asked asked) scanned
  pub files_are : IsFilesIf scene command.outputs scanned.files (is_some cause) files

module _ {T W : Type 0} (w : world.Ghosts W) (s : sources.Ghosts T W) where
  pub tree-scanned : (a b c : T) (asked : Asked) (mid new : Sights) (scanned : Scanned) (command : Command) (cause : Option LocalCause) (files : List SeenFile) → Learns w s a b [] mid (λ scene. IsScanOf scene asked.inputs (meaning_asked asked) scanned)
      → Learns w s b c mid new (λ scene. IsFilesIf scene command.outputs scanned.files (is_some cause) files) → Learns w s a c [] new (λ scene. IsScannedTree scene asked scanned command cause files)
  tree-scanned a b c asked mid new scanned command cause files l m =
      learns-join w s a b c [] mid new (λ scene. IsScanOf scene asked.inputs (meaning_asked asked) scanned) (λ scene. IsFilesIf scene command.outputs scanned.files (is_some cause) files) (λ scene. IsScannedTree scene asked scanned command cause files) l m
      (λ scene x y. record { scans = x; files_are = y })

  pub all-learned : (a b c : T) (asked : Asked) (mid new : Sights) (scanned : Scanned) (command : Command) (cause : Option LocalCause) (files : List SeenFile) (gathered : Gathered) → command ≡ command_asked asked → cause ≡ cause_of (meaning_asked asked).word scanned.hard
      → Learns w s a b [] mid (λ scene. IsScannedTree scene asked scanned command cause files) → Scans w s b c mid new Always
      → plan_of asked.choice cause ≡ Some gathered.plan → HasDirs command scanned.dirs gathered.dirs → map seen_file gathered.files ≡ files
      → Learns w s a c [] new (λ scene. IsGathered scene asked gathered)
  all-learned a b c asked mid new scanned command cause files gathered e k l m p d same =
      learns-join w s a b c [] mid new (λ scene. IsScannedTree scene asked scanned command cause files) Always (λ scene. IsGathered scene asked gathered) l
      (learns-scans w s b c mid new Always m)
      (λ scene h q. gathered-so scene asked scanned files gathered h.scans
      (subst (λ (o : Option LocalCause). IsFilesIf scene (command_asked asked).outputs scanned.files (is_some o) files) k (subst (λ (x : Command). IsFilesIf scene x.outputs scanned.files (is_some cause) files) e h.files_are))
      (subst (λ (o : Option LocalCause). plan_of asked.choice o ≡ Some gathered.plan) k p) (subst (λ (x : Command). HasDirs x scanned.dirs gathered.dirs) e d) same)

  -- what was learned, and then the digests
  pub learns-scanned : (a b c : T) (old mid new : Sights) (P : Scene → Type 0) (Q : Scene → Type 0) → Learns w s a b old mid P → Scans w s b c mid new Q → Learns w s a c old new P
  learns-scanned a b c old mid new P Q l m = learns-join w s a b c old mid new P Q P l (learns-scans w s b c mid new Q m) (λ scene x y. x)

  -- it gave this
  pub all-gathered : (a b : T) (asked : Asked) (new : Sights) (gathered : Gathered) → Learns w s a b [] new (λ scene. IsGathered scene asked gathered) → sights_of gathered.view ≡ new → AreSeen new gathered.files
      → Gathers w s a b asked (Ok gathered)
  all-gathered a b asked new gathered l view seen = record {
    answers = l.answers;
    lists = l.lists;
    view = new;
    tells = l.tells;
    outcome = record { view_is = view; viewed = l.notes; seen = seen; shown = l.fact };
  }
