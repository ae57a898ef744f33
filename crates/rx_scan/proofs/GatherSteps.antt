-- What gathering gives, from what the words say, the scan and the input tree.
use Rattle.std.proofs.Common.{◌≡◌, ◌≢◌, ℕ, ◌≤◌, ◌⊎◌, inl, inr, true, List, [], ◌++◌, refl, sym, ap, subst, ◌∙◌, arith, true≢false}
use Rattle.std.specs.Prelude.{Contains, Err, IfSome, None, Ok, Option, Some, ◌↔◌}
use Rattle.std.specs.Option.{is_some, option_map}
use Rattle.rx_cppflags.specs.declared.readings.Reading.{Reading}
use Rattle.rx_cppflags.specs.declared.readings.Reading.TheVariants as reading
use Rattle.rx_world.specs.declared.commands.Command.{Command}
use Rattle.rx_world.specs.declared.looks.ChangedInput.{ChangedInput}
use Rattle.rx_world.specs.declared.looks.Look.{Look}
use Rattle.rx_world.specs.declared.refusals.LocalCause.{LocalCause}
use Rattle.rx_world.specs.declared.refusals.LocalCause.TheVariants as local
use Rattle.rx_world.specs.declared.sources.Given.{Given}
use Rattle.rx_world.specs.declared.sources.Sources as sources
use Rattle.rx_world.specs.declared.world.World as world
use Rattle.rx_world.proofs.AnswerLemmas.{gives-none}
use Rattle.rx_reach.specs.declared.faults.SightFault.{SightFault}
use Rattle.rx_reach.specs.declared.faults.SightFault.TheVariants.{InputChanged as Changed, NoMemory as OutOfMemory, SourceFault as Lost}
use Rattle.rx_scan.specs.declared.gather_fault.GatherFault.{GatherFault}
use Rattle.rx_scan.specs.declared.gather_fault.GatherFault.TheVariants.{Blocked, InputChanged, InputMissing, NoMemory, NotRemotable, SourceFault, TooLarge}
use Rattle.rx_scan.specs.declared.limits.Extent.TheVariants.{WholeList}
use Rattle.rx_scan.specs.declared.scanned.Scanned.{Scanned}
use Rattle.rx_reach.specs.declared.searches.Search.{Search}
use Rattle.rx_scan.specs.declared.seen_files.SeenFile.{SeenFile}
use Rattle.rx_scan.specs.declared.words.WordMeaning.{WordMeaning}
use Rattle.rx_scan.specs.Gathering.{AllowsWords, Asked, BlamesGather, FitsScan, Gathers, HasPlan, IsInput, IsKept, IsKeptAfter, IsWithin, command_asked, plan_of, reading_asked, meaning_asked, search_asked}
use Rattle.rx_scan.specs.GatherFault.{fault_of}
use Rattle.rx_scan.specs.InputTrees.{BlamesTree, IsFilesIf, cause_of, paths_of}
use Rattle.rx_scan.specs.Limits.{check_of}
use Rattle.rx_scan.specs.Lists.{BlamesSight, Fails, Learns, Listing, Shown, Shows, Stretch, stretch}
use Rattle.rx_scan.specs.Plans.{local_plan}
use Rattle.rx_reach.specs.Reach.{IsHard, IsLeastPath}
use Rattle.rx_scan.specs.Scanned.{BlamesScan, IsScanOf}
use Rattle.rx_reach.specs.Scans.{Ends, Scans}
use Rattle.rx_reach.specs.Scenes.{Scene}
use Rattle.rx_reach.specs.Sights.{IsChangeFrom, IsKnownAt, Notes}
use Rattle.rx_scan.specs.Whole.{IsListOf}
use Rattle.rx_scan.specs.Words.{search_for, with_outputs, word_for}
use Rattle.rx_scan.proofs.Learning.{fails-always, fails-ends, fails-join, fails-one, fails-so, learns-join, learns-scans, shows-first, shows-then}
use Rattle.rx_scan.proofs.LookSteps.{if-known}
use Rattle.rx_reach.proofs.SightLemmas.{answered-later, begins-later, blames-later, notes-join, notes-none, seen-later}

abbrev Sights : Type 0
Sights = List (List ℕ × Look)

-- ---- what keeps a command here

-- a command with such a word has no includes that can be followed
word-alone : (command : Command) (o : Option Reading) (word : List ℕ) (search : Search) → word_for o ≡ Some word → search_for command o ≡ Some search → ⊥
word-alone command None word search e s = absurd (cc e)
word-alone command (Some (reading.Compile source quote_dirs dirs forced walked sysroots outputs is_c)) word search e s = absurd (cc e)
word-alone command (Some (reading.LocalOnly text outputs)) word search e s = absurd (cc s)

tool-says : (o : Option Reading) (word : List ℕ) → word_for o ≡ Some word → o ≡ None → ⊥
tool-says o word e n = absurd (cc (sym e ∙ ap word_for n))

tool-seeks : (command : Command) (o : Option Reading) → o ≡ None → search_for command o ≡ None
tool-seeks command o n = ap (search_for command) n

pub kept-word : (scene : Scene) (asked : Asked) (word : List ℕ) → word_for (reading_asked asked) ≡ Some word → IsKept scene asked (Some (local.Word word))
kept-word scene asked word e = record {
  by_word = λ other f. let same : word ≡ other = cc (sym e ∙ f) in ap (λ w. Some (local.Word w)) same;
  by_path = λ search s. absurd (word-alone asked.command (reading_asked asked) word search e s);
  of_tool = λ n. absurd (tool-says (reading_asked asked) word e n);
}

no-word : (scene : Scene) (asked : Asked) (scanned : Scanned) (o : Option (List ℕ)) → word_for (reading_asked asked) ≡ o → IsScanOf scene asked.inputs (meaning_asked asked) scanned → IsKept scene asked (cause_of o scanned.hard)
no-word scene asked scanned (Some word) e h = kept-word scene asked word e
no-word scene asked scanned None e h = record {
  by_word = λ other f. absurd (cc (sym e ∙ f));
  by_path = λ search s. (scanned.hard, h.hard search s, refl);
  of_tool = λ n. ap (option_map (λ path. local.Path path)) (h.easy (tool-seeks asked.command (reading_asked asked) n));
}

pub kept-so : (scene : Scene) (asked : Asked) (scanned : Scanned) → IsScanOf scene asked.inputs (meaning_asked asked) scanned → IsKept scene asked (cause_of (meaning_asked asked).word scanned.hard)
kept-so scene asked scanned h = no-word scene asked scanned (word_for (reading_asked asked)) refl h

pub inputs-so : (scene : Scene) (asked : Asked) (scanned : Scanned) (cause : Option LocalCause) (files : List SeenFile) → IsScanOf scene asked.inputs (meaning_asked asked) scanned → IsFilesIf scene (command_asked asked).outputs scanned.files (is_some cause) files
    → (path : List ℕ) → Contains (paths_of files) path ↔ IsInput scene asked cause path
inputs-so scene asked scanned None files h f path = subst (λ (fs : List SeenFile). Contains (paths_of fs) path ↔ IsInput scene asked None path) (sym f) (h.list.only path)
inputs-so scene asked scanned (Some cause) files h f path = f.only path

pub command-asked : (asked : Asked) (meaning : WordMeaning) (outputs : List (List ℕ)) (command : Command) → meaning ≡ meaning_asked asked → outputs ≡ meaning.outputs → command ≡ with_outputs asked.command outputs → command ≡ command_asked asked
command-asked asked meaning outputs command k o e = e ∙ ap (with_outputs asked.command) (o ∙ ap (λ (s : WordMeaning). s.outputs) k)

pub cause-asked : (asked : Asked) (meaning : WordMeaning) (hard : Option (List ℕ)) (cause : Option LocalCause) → meaning ≡ meaning_asked asked → cause ≡ cause_of meaning.word hard → cause ≡ cause_of (meaning_asked asked).word hard
cause-asked asked meaning hard cause k e = e ∙ ap (λ (s : WordMeaning). cause_of s.word hard) k

-- ---- the steps

pub allows-meaning : (asked : Asked) (meaning : WordMeaning) → meaning ≡ meaning_asked asked → ((text : List ℕ) → meaning.word ≡ Some text → local_plan asked.choice ≢ None) → AllowsWords asked
allows-meaning asked meaning e h = subst (λ (s : WordMeaning). (text : List ℕ) → s.word ≡ Some text → local_plan asked.choice ≢ None) e h

fits-scan : (scene : Scene) (asked : Asked) (scanned : Scanned) → AllowsWords asked → IsScanOf scene asked.inputs (meaning_asked asked) scanned → FitsScan scene asked
fits-scan scene asked scanned allows h = record { inputs = record { words = allows; there = h.there }; scan = (scanned.files, h.list, h.fits) }

-- there is one least path, or none
least-once : (P : List ℕ → Type 0) (a b : Option (List ℕ)) (other : LocalCause) → IsLeastPath P a → IsLeastPath P b → None ≡ option_map (λ path. local.Path path) a → Some other ≡ option_map (λ path. local.Path path) b → ⊥
least-once P (Some path) b other h k e f = absurd (cc e)
least-once P None None other h k e f = absurd (cc f)
least-once P None (Some path) other h k e f = h path k.0

-- what nothing keeps here isn't kept by anything
kept-once : (scene : Scene) (asked : Asked) (other : LocalCause) (o : Option Reading) → reading_asked asked ≡ o → IsKept scene asked None → IsKept scene asked (Some other) → ⊥
kept-once scene asked other None e h k = absurd (cc (k.of_tool e))
kept-once scene asked other (Some (reading.LocalOnly word outputs)) e h k = absurd (cc (h.by_word word (ap word_for e)))
kept-once scene asked other (Some (reading.Compile source quote_dirs dirs forced walked sysroots outputs is_c)) e h k =
    let search : Search = record { working_directory = asked.command.working_directory; source = source; quote_dirs = quote_dirs; dirs = dirs; forced = forced; walked = walked; is_c = is_c } in
    let sought : search_asked asked ≡ Some search = ap (search_for asked.command) e in
    let a = h.by_path search sought in
    let b = k.by_path search sought in
    least-once (IsHard scene search) a.0 b.0 other a.1 b.1 a.2 b.2

any-plan : (scene : Scene) (asked : Asked) (cause : Option LocalCause) → IsKept scene asked cause → plan_of asked.choice cause ≢ None → (other : LocalCause) → IsKept scene asked (Some other) → plan_of asked.choice (Some other) ≢ None
any-plan scene asked (Some cause) h planned other k = planned
any-plan scene asked None h planned other k = absurd (kept-once scene asked other (reading_asked asked) refl h k)

has-plan : (scene : Scene) (asked : Asked) (scanned : Scanned) → AllowsWords asked → IsScanOf scene asked.inputs (meaning_asked asked) scanned → plan_of asked.choice (cause_of (meaning_asked asked).word scanned.hard) ≢ None → HasPlan scene asked
has-plan scene asked scanned allows h planned = record {
  fits = fits-scan scene asked scanned allows h;
  planned = any-plan scene asked (cause_of (meaning_asked asked).word scanned.hard) (kept-so scene asked scanned h) planned;
}

tree-within : (scene : Scene) (outputs : List (List ℕ)) (scanned : List SeenFile) (cause : Option LocalCause) (files : List SeenFile) → IsFilesIf scene outputs scanned (is_some cause) files → (cause ≡ None) ⊎ ((all : List SeenFile) × IsListOf scene all × (check_of WholeList all ≡ Ok tt))
tree-within scene outputs scanned None files f = inl refl
tree-within scene outputs scanned (Some cause) files f = inr f.fits

pub within-so : (scene : Scene) (asked : Asked) (scanned : Scanned) (cause : Option LocalCause) (files : List SeenFile) → IsScanOf scene asked.inputs (meaning_asked asked) scanned → IsFilesIf scene (command_asked asked).outputs scanned.files (is_some cause) files → IsWithin scene asked cause
within-so scene asked scanned cause files h f = record { scan = (scanned.files, h.list, h.fits); list = tree-within scene (command_asked asked).outputs scanned.files cause files f }

-- a word that keeps the command here is refused at once
word-of : (o hard : Option (List ℕ)) (word : List ℕ) → cause_of o hard ≡ Some (local.Word word) → o ≡ Some word
word-of (Some text) hard word e = cc e
word-of None None word e = absurd (cc e)
word-of None (Some path) word e = absurd (cc e)

path-of : (o hard : Option (List ℕ)) (path : List ℕ) → cause_of o hard ≡ Some (local.Path path) → hard ≡ Some path
path-of (Some text) hard path e = absurd (cc e)
path-of None None path e = absurd (cc e)
path-of None (Some found) path e = cc e

kept-after : (asked : Asked) (scanned : Scanned) (kept : LocalCause) (st : Stretch) → AllowsWords asked → cause_of (meaning_asked asked).word scanned.hard ≡ Some kept → plan_of asked.choice (Some kept) ≡ None
    → IfSome scanned.hard (IsKnownAt st.new) → Shown st (λ scene. IsScanOf scene asked.inputs (meaning_asked asked) scanned) → IsKeptAfter asked kept st
kept-after asked scanned (local.Word word) st allows e none known fact = absurd (allows word (word-of (meaning_asked asked).word scanned.hard word e) none)
kept-after asked scanned (local.Path path) st allows e none known fact =
    (subst (λ (o : Option (List ℕ)). IfSome o (IsKnownAt st.new)) (path-of (meaning_asked asked).word scanned.hard path e) known, λ scene shows. fits-scan scene asked scanned allows (fact scene shows))

-- ---- refusals by cases

word-refused : (asked : Asked) (before now : ℕ) (fault : GatherFault) → (text : List ℕ) × (word_for (reading_asked asked) ≡ Some text) × (fault ≡ NotRemotable (local.Word text)) × (local_plan asked.choice ≡ None)
    → BlamesGather asked fault (stretch [] [] before now [] [])
word-refused asked before now fault h =
    subst (λ f. BlamesGather asked f (stretch [] [] before now [] [])) (sym h.2) (h.3, notes-none [], (refl, refl), λ scene shows. kept-word scene asked h.0 h.1)

of-word : (asked : Asked) (before now : ℕ) (fault : GatherFault) → (fault ≢ NoMemory → (text : List ℕ) × (word_for (reading_asked asked) ≡ Some text) × (fault ≡ NotRemotable (local.Word text)) × (local_plan asked.choice ≡ None))
    → BlamesGather asked fault (stretch [] [] before now [] [])
of-word asked before now NoMemory h = tt
of-word asked before now (InputMissing path) h = word-refused asked before now (InputMissing path) (h (λ e. cc e))
of-word asked before now (SourceFault path) h = word-refused asked before now (SourceFault path) (h (λ e. cc e))
of-word asked before now (TooLarge limit n path) h = word-refused asked before now (TooLarge limit n path) (h (λ e. cc e))
of-word asked before now (InputChanged change) h = word-refused asked before now (InputChanged change) (h (λ e. cc e))
of-word asked before now (NotRemotable cause) h = word-refused asked before now (NotRemotable cause) (h (λ e. cc e))
of-word asked before now (Blocked path) h = word-refused asked before now (Blocked path) (h (λ e. cc e))

of-scan : (asked : Asked) (fault : GatherFault) (st : Stretch) → AllowsWords asked → BlamesScan asked.inputs (meaning_asked asked) fault st → BlamesGather asked fault st
of-scan asked (InputMissing path) st allows h = (allows, h.0, h.1)
of-scan asked (SourceFault path) st allows h = h
of-scan asked (TooLarge limit n path) st allows h = (h.1, inl h.0, λ scene shows. let k = h.2 scene shows in inl (record { words = allows; there = k.0 }, k.1))
of-scan asked (InputChanged change) st allows h = (h.0, inl h.1)
of-scan asked (NotRemotable cause) st allows h = absurd h
of-scan asked (Blocked path) st allows h = absurd h
of-scan asked NoMemory st allows h = tt

of-sight : (asked : Asked) (fault : SightFault) (st : Stretch) → BlamesSight fault st → BlamesGather asked (fault_of fault) st
of-sight asked (Lost path) st h = h
of-sight asked (Changed change) st h = (h.0, inl h.1)
of-sight asked OutOfMemory st h = tt

kept-some : (scene : Scene) (asked : Asked) (o : Option LocalCause) → is_some o ≡ true → IsKept scene asked o → (cause : LocalCause) × IsKept scene asked (Some cause)
kept-some scene asked (Some cause) e h = (cause, h)
kept-some scene asked None e h = absurd (true≢false (sym e))

-- a change that was seen after other answers
changed-later : (mid : Sights) (xs ys : List Given) (change : ChangedInput) → Notes [] mid xs → IsChangeFrom mid ys change → IsChangeFrom [] (xs ++ ys) change
changed-later mid xs ys change n (b, inl d) = (begins-later [] mid xs ys change n b, inl (answered-later xs ys change.path change.second.look d.0, d.1))
changed-later mid xs ys change n (b, inr u) =
    let below = u.2 in
    (begins-later [] mid xs ys change n b, inr (u.0, u.1, (below.0, below.1, below.2, below.3, seen-later [] mid xs ys below.0 below.1 n below.4)))

-- the tree's refusals, after a scan
of-tree : (asked : Asked) (scanned : Scanned) (mid new : Sights) (fa fb fc : ℕ) (fault : GatherFault) (xs ys : List Given) (ls ms : List Listing) → AllowsWords asked → fa ≤ fb → Notes [] mid xs → IfSome scanned.hard (IsKnownAt mid)
    → ((scene : Scene) → Shows scene [] xs ls → IsScanOf scene asked.inputs (meaning_asked asked) scanned)
    → BlamesTree (command_asked asked) scanned.files (cause_of (meaning_asked asked).word scanned.hard) asked.choice fault (stretch mid new fb fc ys ms)
    → BlamesGather asked fault (stretch [] new fa fc (xs ++ ys) (ls ++ ms))
of-tree asked scanned mid new fa fb fc (InputMissing path) xs ys ls ms allows le n known fact h = absurd h
of-tree asked scanned mid new fa fb fc (SourceFault path) xs ys ls ms allows le n known fact h = omega (arith, le, h)
of-tree asked scanned mid new fa fb fc (TooLarge limit m path) xs ys ls ms allows le n known fact h = (
  notes-join [] mid new xs ys n h.3,
  inr h.2,
  λ scene shows.
      let here = fact scene (shows-first scene [] xs ys ls ms shows) in
      inr (
        has-plan scene asked scanned allows here h.1,
        (kept-some scene asked (cause_of (meaning_asked asked).word scanned.hard) h.0 (kept-so scene asked scanned here), h.4 scene (shows-then scene [] mid xs ys ls ms n shows)),
      ),
)
of-tree asked scanned mid new fa fb fc (InputChanged change) xs ys ls ms allows le n known fact h = changed-later mid xs ys change n h
of-tree asked scanned mid new fa fb fc (NotRemotable kept) xs ys ls ms allows le n known fact h =
    let there : (scene : Scene) → Shows scene [] (xs ++ ys) (ls ++ ms) → IsScanOf scene asked.inputs (meaning_asked asked) scanned = λ scene shows. fact scene (shows-first scene [] xs ys ls ms shows) in
    let none : plan_of asked.choice (Some kept) ≡ None = ap (plan_of asked.choice) (sym h.0) ∙ h.1 in (
      none,
      notes-join [] mid new xs ys n h.2,
      kept-after asked scanned kept (stretch [] new fa fc (xs ++ ys) (ls ++ ms)) allows h.0 none (if-known mid new ys scanned.hard h.2 known) there,
      λ scene shows. subst (λ o. IsKept scene asked o) h.0 (kept-so scene asked scanned (there scene shows)),
    )
of-tree asked scanned mid new fa fb fc (Blocked path) xs ys ls ms allows le n known fact h = (
  notes-join [] mid new xs ys n h.1,
  h.2,
  λ scene shows.
      let here = fact scene (shows-first scene [] xs ys ls ms shows) in
      let k = h.3 scene (shows-then scene [] mid xs ys ls ms n shows) in
      let cause = cause_of (meaning_asked asked).word scanned.hard in
      record {
        cause = cause;
        files = paths_of k.0;
        kept = kept-so scene asked scanned here;
        planned = has-plan scene asked scanned allows here h.0;
        within = within-so scene asked scanned cause k.0 here k.1;
        sorted = k.2;
        each = inputs-so scene asked scanned cause k.0 here k.1;
        blocks = k.3;
      },
)
of-tree asked scanned mid new fa fb fc NoMemory xs ys ls ms allows le n known fact h = tt

module _ {T W : Type 0} (w : world.Ghosts W) (s : sources.Ghosts T W) where
  -- it gave nothing
  pub gathers-fault : (a b : T) (view : Sights) (asked : Asked) (fault : GatherFault) → Fails w s a b [] view (BlamesGather asked fault) → Gathers w s a b asked (Err fault)
  gathers-fault a b view asked fault f = record { answers = f.answers; lists = f.lists; view = view; tells = f.tells; outcome = f.cause }

  pub memory-at_once : (a : T) (asked : Asked) → Gathers w s a a asked (Err NoMemory)
  memory-at_once a asked = gathers-fault a a [] asked NoMemory (fails-one w s a a [] [] [] (BlamesGather asked NoMemory) (gives-none w s a) tt)

  pub refused-meaning : (a : T) (asked : Asked) (meaning : WordMeaning) (fault : GatherFault) → meaning ≡ meaning_asked asked → (fault ≢ NoMemory → (text : List ℕ) × (meaning.word ≡ Some text) × (fault ≡ NotRemotable (local.Word text)) × (local_plan asked.choice ≡ None))
      → Gathers w s a a asked (Err fault)
  refused-meaning a asked meaning fault e h =
      let meant = subst (λ (m : WordMeaning). fault ≢ NoMemory → (text : List ℕ) × (m.word ≡ Some text) × (fault ≡ NotRemotable (local.Word text)) × (local_plan asked.choice ≡ None)) e h in
      gathers-fault a a [] asked fault (fails-one w s a a [] [] [] (BlamesGather asked fault) (gives-none w s a) (of-word asked (s.faults a) (s.faults a) fault meant))

  pub refused-scan : (a b : T) (asked : Asked) (meaning : WordMeaning) (old new : Sights) (fault : GatherFault) → AllowsWords asked → meaning ≡ meaning_asked asked → old ≡ [] → Fails w s a b old new (BlamesScan asked.inputs meaning fault) → Gathers w s a b asked (Err fault)
  refused-scan a b asked meaning old new fault allows e o f =
      gathers-fault a b new asked fault
      (fails-so w s a b [] new (BlamesScan asked.inputs meaning fault) (BlamesGather asked fault) (subst (λ (x : Sights). Fails w s a b x new (BlamesScan asked.inputs meaning fault)) o f)
      (λ st h. of-scan asked fault st allows (subst (λ (m : WordMeaning). BlamesScan asked.inputs m fault st) e h)))

  -- the scan, as that of what was asked
  pub scanned-asked : (a b : T) (asked : Asked) (meaning : WordMeaning) (old new : Sights) (scanned : Scanned) → meaning ≡ meaning_asked asked → old ≡ [] → Learns w s a b old new (λ scene. IsScanOf scene asked.inputs meaning scanned)
      → Learns w s a b [] new (λ scene. IsScanOf scene asked.inputs (meaning_asked asked) scanned)
  scanned-asked a b asked meaning old new scanned e o l =
      subst (λ (m : WordMeaning). Learns w s a b [] new (λ scene. IsScanOf scene asked.inputs m scanned)) e
      (subst (λ (x : Sights). Learns w s a b x new (λ scene. IsScanOf scene asked.inputs meaning scanned)) o l)

  pub refused-tree : (a b c : T) (asked : Asked) (mid new : Sights) (scanned : Scanned) (command : Command) (cause : Option LocalCause) (fault : GatherFault) → AllowsWords asked → command ≡ command_asked asked → cause ≡ cause_of (meaning_asked asked).word scanned.hard
      → IfSome scanned.hard (IsKnownAt mid) → Learns w s a b [] mid (λ scene. IsScanOf scene asked.inputs (meaning_asked asked) scanned) → Fails w s b c mid new (BlamesTree command scanned.files cause asked.choice fault)
      → Gathers w s a c asked (Err fault)
  refused-tree a b c asked mid new scanned command cause fault allows e k known l f =
      gathers-fault a c new asked fault
      (fails-join w s a b c [] mid new (λ scene. IsScanOf scene asked.inputs (meaning_asked asked) scanned) (BlamesTree command scanned.files cause asked.choice fault) (BlamesGather asked fault) l f
      (λ xs ys ls ms le n fact h. of-tree asked scanned mid new (s.faults a) (s.faults b) (s.faults c) fault xs ys ls ms allows le n known fact
      (subst (λ (o : Option LocalCause). BlamesTree (command_asked asked) scanned.files o asked.choice fault (stretch mid new (s.faults b) (s.faults c) ys ms)) k
      (subst (λ (x : Command). BlamesTree x scanned.files cause asked.choice fault (stretch mid new (s.faults b) (s.faults c) ys ms)) e h))))

  pub refused-sight : (a b c : T) (asked : Asked) (mid : Sights) (P : Scene → Type 0) (fault : SightFault) → Learns w s a b [] mid P → Ends w s b c mid fault → Gathers w s a c asked (Err (fault_of fault))
  refused-sight a b c asked mid P fault l e =
      gathers-fault a c mid asked (fault_of fault)
      (fails-join w s a b c [] mid mid P (BlamesSight fault) (BlamesGather asked (fault_of fault)) l (fails-ends w s b c mid mid fault e)
      (λ xs ys ls ms le n p cause. of-sight asked fault (stretch [] mid (s.faults a) (s.faults c) (xs ++ ys) (ls ++ ms)) (blames-later [] mid xs ys (s.faults a) (s.faults b) (s.faults c) fault n le cause)))

  pub memory-last : (a b c : T) (asked : Asked) (mid new : Sights) (P Q : Scene → Type 0) → Learns w s a b [] mid P → Scans w s b c mid new Q → Gathers w s a c asked (Err NoMemory)
  memory-last a b c asked mid new P Q l k =
      gathers-fault a c new asked NoMemory
      (fails-always w s a c [] new new P (BlamesGather asked NoMemory) (learns-join w s a b c [] mid new P Q P l (learns-scans w s b c mid new Q k) (λ scene x y. x)) (λ st. tt))
