-- Nothing keeps a session from its outcome whose source trees keep one list and whose parts don't fail.
use Rattle.std.proofs.Common.{◌≡◌, ◌≢◌, ℕ, List, [], ◌∷◌, refl, ap, sym, subst, ◌∙◌, arith, inl, inr}
use Rattle.std.specs.Prelude.{All, Contains, Option, Some}
use Rattle.std.proofs.lemmas.List.Elements.{All-contains, Contains-append_right}
use Rattle.rx_base.specs.Digests.{digest_of}
use Rattle.rx_board.specs.declared.journal.Receipt.{Receipt}
use Rattle.rx_core.proofs.Cases.{none-some}
use Rattle.rx_local.specs.Local.{IsStopped, LacksOutput}
use Rattle.rx_local.specs.Stage.{IsChangedInput}
use Rattle.rx_local.proofs.LimitLemmas.{within-none}
use Rattle.rx_local.proofs.Staging.{staged-listed}
use Rattle.rx_scan.specs.declared.gather_fault.GatherFault.{GatherFault}
use Rattle.rx_scan.specs.declared.gather_fault.GatherFault.TheVariants as fault
use Rattle.rx_scan.specs.declared.gathering.Gathered.{Gathered}
use Rattle.rx_reach.proofs.SightLemmas.{first-contains, right-noted}
use Rattle.rx_reach.specs.Scenes.{AreRight, scene_of}
use Rattle.rx_reach.specs.Sights.{IsChangeFrom, Notes, WasSeen, first_seen}
use Rattle.rx_session.specs.declared.requests.Request.{Request}
use Rattle.rx_world.specs.declared.attempts.Cause.{Cause}
use Rattle.rx_world.specs.declared.attempts.Cause.TheVariants as causes
use Rattle.rx_world.specs.declared.attempts.End.TheVariants as ends
use Rattle.rx_world.specs.declared.commands.Strategy.TheVariants as strategies
use Rattle.rx_world.specs.declared.decisions.Decision.{Decision}
use Rattle.rx_world.specs.declared.input_files.InputFile.{InputFile}
use Rattle.rx_world.specs.declared.looks.Look.{Look}
use Rattle.rx_world.specs.declared.looks.ChangedInput.{ChangedInput}
use Rattle.rx_world.specs.declared.looks.Stamp.{Stamp}
use Rattle.rx_world.specs.declared.sources.Given.{Given}
use Rattle.rx_world.specs.declared.sources.SourceEntry.{SourceEntry}
use Rattle.rx_world.specs.Answers.{HasContent, IsAnswerOf}
use Rattle.rx_world.specs.Causes.{Rose}
use Rattle.rx_world.specs.Inputs.{look_of}
use Rattle.rx_world.specs.Outcomes.{IsClean}
use Rattle.rx_world.specs.Sources.{entry_at, given_bytes, is_file}
use Rattle.rx_world.specs.Trees.{tree_of}
use Rattle.rx_engine.specs.declared.transcripts.Tally.{Tally}
use Rattle.rx_engine.specs.declared.transcripts.Transcript.{Transcript}
use Rattle.rx_engine.specs.Answers.{Grounds, HasGathered, IsRefused, asked_of}
use Rattle.rx_engine.specs.Attempts.{HasEndedHere}
use Rattle.rx_engine.specs.Meanings.{Meanings}
use Rattle.rx_engine.specs.Quiet.{AreApart, CanGather, IsQuiet, IsQuietThere, KeepsLimitsFrom, MakesFrom}
use Rattle.rx_engine.specs.Session.{IsSession}
use Rattle.rx_engine.proofs.HonestRuns.{IsByList, again, by-list, grounds_of, shows}

-- what was seen is what the list has
seen-by : (entries : List SourceEntry) (answers : List Given) (path : List ℕ) (look : Look) → All (IsAnswerOf entries) answers → WasSeen [] answers path look → look ≡ (entry_at path entries).look
seen-by entries answers path look h (inl before) = absurd (none-some before)
seen-by entries answers path look h (inr w) =
    let answer = All-contains (IsAnswerOf entries) answers w.0 h w.1 in
    sym w.3 ∙ answer.look_is ∙ ap (λ p. (entry_at p entries).look) w.2

-- the first answer at a path is what the list has
first-by : (entries : List SourceEntry) (answers : List Given) (path : List ℕ) (look : Look) → All (IsAnswerOf entries) answers → first_seen [] answers path ≡ Some look → look ≡ (entry_at path entries).look
first-by entries answers path look h e = seen-by entries answers path look h (inr (first-contains path answers look e))

-- by one list nothing changes while it is gathered
not-changed : (entries : List SourceEntry) (answers : List Given) (input : ChangedInput) → All (IsAnswerOf entries) answers → AreApart entries → IsChangeFrom [] answers input → ⊥
not-changed entries answers input h apart c =
    let one = first-by entries answers input.path input.first.look h c.0.first_is in
    elim c.1 [
      | inl other ↦ other.1 (one ∙ sym (seen-by entries answers input.path input.second.look h (inr other.0)))
      | inr above ↦
          let b = above.2 in b.3 (seen-by entries answers b.0 b.1 h b.4 ∙ apart input.path b.0 (ap is_file (sym one) ∙ above.0) b.2)
    ]

-- what an honest world holds under a stamp has the digest that was gathered
same-digest : (content : List ℕ → Stamp → List ℕ) (file : InputFile) (look : Look) (bytes : List ℕ) → file.digest ≡ digest_of (content file.path file.stamp) → look ≡ look_of file
    → HasContent content (given_bytes file.path look bytes) → digest_of bytes ≡ file.digest
same-digest content file look bytes d e h =
    let here : bytes ≡ content file.path file.stamp = rw e at h in
    ap digest_of here ∙ sym d

-- in an honest world a file that is read again is as it was gathered, by the list that both source trees keep
not-changed-again : (entries : List SourceEntry) (content : List ℕ → Stamp → List ℕ) (files : List InputFile) (answers : List Given) (input : ChangedInput)
    → IsChangedInput files answers input
    → All (IsAnswerOf entries) answers → All (HasContent content) answers
    → All (λ f. (entry_at f.path entries).look ≡ look_of f) files → All (λ f. f.digest ≡ digest_of (content f.path f.stamp)) files
    → ⊥
not-changed-again entries content files answers input c listed contents looks digests =
    let answer = given_bytes c.file.path c.change.look c.change.bytes in
    let here : Contains c.last answer = rw c.change.read (0, omega arith, refl) in
    let given : Contains answers answer = rw c.front.answers_are (Contains-append_right c.front.read c.last answer here) in
    let among : Contains files c.file = rw c.front.files_are (Contains-append_right c.front.front (c.file ∷ c.rest) c.file (0, omega arith, refl)) in
    let by_list = All-contains (IsAnswerOf entries) answers answer listed given in
    let same : c.change.look ≡ look_of c.file = by_list.look_is ∙ All-contains (λ f. (entry_at f.path entries).look ≡ look_of f) files c.file looks among in
    elim c.change.differ [
      | inl other ↦ other.0 same
      | inr other ↦ other.1 (same-digest content c.file c.change.look c.change.bytes (All-contains (λ f. f.digest ≡ digest_of (content f.path f.stamp)) files c.file digests among) same
          (All-contains (HasContent content) answers answer contents given))
    ]

-- What a quiet session stands on: its source trees told what the list has, and no count rose.
pub record IsCalm {P W B : Type 0} (m : Meanings P W B) (entries : List SourceEntry) (g : Grounds P) (asked : Request) : Type 0 where
  pub by_list : IsByList m entries g
  pub stamps_hold : m.world.stamps_honest
  pub apart : AreApart entries
  pub gathers : CanGather (scene_of entries) (asked_of asked)
  pub proper : MakesFrom m.world.tool entries (asked_of asked)
  pub limits : KeepsLimitsFrom m.world.tool entries (asked_of asked)
  pub tree : Rose (m.tree.faults g.before) (m.tree.faults g.after) → ⊥
  pub tree_local : Rose (m.tree_local.faults g.before) (m.tree_local.faults g.after) → ⊥
  pub benches : Rose (m.benches.faults g.before) (m.benches.faults g.after) → ⊥
  pub there : asked.strategy ≡ strategies.Remote → IsQuietThere m g.before g.after entries (asked_of asked)

pub calm : {P W B : Type 0} (m : Meanings P W B) (root : List ℕ) (before after : P) (t : Transcript) (bytes : List ℕ) (asked : Request)
    → (s : IsSession m root before after t) → (q : IsQuiet m root before after bytes asked) → IsCalm m q.entries (grounds_of m root before after t s) asked
calm m root before after t bytes asked s q = record {
  by_list = by-list m root before after t bytes asked q.entries s q.steady;
  stamps_hold = q.stamps;
  apart = q.apart;
  gathers = q.gathers;
  proper = q.proper;
  limits = q.limits;
  tree = q.tree;
  tree_local = q.tree_local;
  benches = q.benches;
  there = q.there;
}

module _ {P W B : Type 0} (m : Meanings P W B) (entries : List SourceEntry) (g : Grounds P) (asked : Request) (c : IsCalm m entries g asked) where
  -- the first looks are those of the list
  view-right : Notes [] g.view g.answers → AreRight (scene_of entries) g.view
  view-right notes = let s = shows m entries g c.by_list in right-noted (scene_of entries) [] g.view g.answers notes s.seen s.answered

  -- the gathering refuses nothing, unless memory runs out
  pub not-refused-by : (receipt : Option Receipt) (tally : Tally) (why : GatherFault) → IsRefused m g asked receipt tally why → (why ≡ fault.NoMemory → ⊥) → ⊥
  not-refused-by receipt tally (fault.InputMissing path) f n = none-some (sym c.gathers.there ∙ f.cause.2.1 (scene_of entries) (view-right f.cause.1))
  not-refused-by receipt tally (fault.SourceFault path) f n = c.tree f.cause
  not-refused-by receipt tally (fault.TooLarge limit count path) f n =
      elim (f.cause.2 (scene_of entries) (shows m entries g c.by_list)) [
        | inl scan ↦ c.gathers.scan limit count path scan.1
        | inr list ↦ c.gathers.list limit count path list.1
      ]
  not-refused-by receipt tally (fault.InputChanged input) f n = not-changed entries g.answers input c.by_list.told c.apart f.cause
  not-refused-by receipt tally (fault.NotRemotable why) f n = c.gathers.planned why (f.cause.3 (scene_of entries) (shows m entries g c.by_list)) f.cause.0
  not-refused-by receipt ends (fault.Blocked path) f n =
      let b = f.cause.2 (scene_of entries) (shows m entries g c.by_list) in
      none-some (sym (c.gathers.free b.cause b.files b.kept b.sorted b.each) ∙ b.blocks)
  not-refused-by receipt ends fault.NoMemory f n = n refl

  -- the attempt doesn't fail, where it isn't stopped
  pub not-failed-for : (gathered : Gathered) (told : Option Decision) (why : Cause) → HasGathered m g asked gathered → HasEndedHere m gathered told g.before g.after (ends.Failed why)
      → (IsStopped why → ⊥) → why ≢ causes.NoMemory → ⊥
  not-failed-for gathered told (causes.BenchFault step) inputs h u n = c.benches h.attempted.counted
  not-failed-for gathered told (causes.SourceFault path) inputs h u n = c.tree_local h.attempted.counted
  not-failed-for gathered told causes.NoMemory inputs h u n = n refl
  not-failed-for gathered told (causes.Stopped decision) inputs h u n = u tt
  not-failed-for gathered told (causes.OutputTooLarge limit count) inputs h u n =
      let caused = h.attempted.on.ended.caused in
      let here = inputs.by.shown (scene_of entries) (shows m entries g c.by_list) in
      let same = staged-listed entries gathered.files h.attempted.on.answers caused.of.staged caused.of.each (again m entries g gathered told _ c.by_list h) in
      let clean = subst (λ copies. IsClean m.world.tool gathered.command (tree_of copies gathered.dirs) caused.outcome) same (caused.of.clean c.by_list.tools_hold) in
      none-some (sym (within-none caused.outcome (c.limits gathered here inputs.orderly caused.outcome clean)) ∙ caused.passes)
  not-failed-for gathered told (causes.OutputMissing path) inputs h u n =
      let caused = h.attempted.on.ended.caused in
      let here = inputs.by.shown (scene_of entries) (shows m entries g c.by_list) in
      let same = staged-listed entries gathered.files h.attempted.on.answers caused.staged caused.each (again m entries g gathered told _ c.by_list h) in
      let lacks = subst (λ copies. LacksOutput m.world.tool gathered.command (tree_of copies gathered.dirs) path) same (caused.lacks c.by_list.tools_hold) in
      none-some (sym (c.proper gathered here inputs.orderly lacks.code_is) ∙ lacks.first)
  not-failed-for gathered told (causes.InputChanged input) inputs h u n =
      let here = inputs.by.shown (scene_of entries) (shows m entries g c.by_list) in
      not-changed-again entries m.world.content gathered.files h.attempted.on.answers input h.attempted.on.ended.caused (again m entries g gathered told _ c.by_list h)
      (h.attempted.on.gives.contents c.stamps_hold) here.looks (inputs.digests c.stamps_hold)
