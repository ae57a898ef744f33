-- What a session of an honest world stands on, and its clean run.
use Rattle.std.proofs.Common.{◌≡◌, ◌||◌, ℕ, ℤ, Bool, true, List, [], ◌∷◌, ◌++◌, refl, ap, sym, subst, ◌∙◌, length, inl, inr}
use Rattle.std.specs.Prelude.{◌⊎◌, All, IfSome, MatchOption, None, Option, Some, is_some}
use Rattle.std.specs.Io.KnownBytes.{Consumes}
use Rattle.std.proofs.lemmas.List.Elements.{All-weaker}
use Rattle.rx_action.specs.ActionKeys.{key_of}
use Rattle.rx_base.specs.declared.digests.Digest.{Digest}
use Rattle.rx_board.specs.declared.journal.Entry.{Entry}
use Rattle.rx_core.proofs.Cases.{none-some, some-is}
use Rattle.rx_local.proofs.Staging.{staged-listed}
use Rattle.rx_reach.specs.Scenes.{IsRight, scene_of}
use Rattle.rx_race.specs.Publishing.{is_remote_only, is_zero}
use Rattle.rx_remote.specs.Runs.{IsRightEnd}
use Rattle.rx_scan.specs.declared.gathering.Gathered.{Gathered}
use Rattle.rx_scan.specs.Gathering.{IsGathered}
use Rattle.rx_scan.specs.Lists.{IsRightList, Shows}
use Rattle.rx_session.specs.declared.replies.Reply.{Reply}
use Rattle.rx_session.specs.declared.replies.Reply.TheVariants as reply
use Rattle.rx_session.specs.declared.requests.Request.{Request}
use Rattle.rx_session.specs.Frames.{IsRequest, incoming_of}
use Rattle.rx_session.proofs.WatchLemmas.{incoming-prefix}
use Rattle.rx_tree.specs.WorldTrees.{IsCopyOf, IsRootOfCopies, root_of}
use Rattle.rx_world.specs.declared.attempts.Attempt.{Attempt}
use Rattle.rx_world.specs.declared.attempts.Attempt.TheVariants as whose
use Rattle.rx_world.specs.declared.attempts.Cause.{Cause}
use Rattle.rx_world.specs.declared.attempts.End.{End}
use Rattle.rx_world.specs.declared.attempts.End.TheVariants as ends
use Rattle.rx_world.specs.declared.attempts.Origin.{Origin}
use Rattle.rx_world.specs.declared.decisions.Decision.{Decision}
use Rattle.rx_world.specs.declared.looks.Look.{Look}
use Rattle.rx_world.specs.declared.outcomes.Outcome.{Outcome}
use Rattle.rx_world.specs.declared.remote_causes.RemoteCause.{RemoteCause}
use Rattle.rx_world.specs.declared.remote_causes.RemoteCause.TheVariants as remote_causes
use Rattle.rx_world.specs.declared.sources.Given.{Given}
use Rattle.rx_world.specs.declared.sources.SourceEntry.{SourceEntry}
use Rattle.rx_world.specs.Answers.{IsAnswerOf}
use Rattle.rx_world.specs.Inputs.{IsAsListed, listed_copy}
use Rattle.rx_world.specs.Outcomes.{IsClean, listing}
use Rattle.rx_world.specs.Sources.{entry_at}
use Rattle.rx_world.specs.Trees.{tree_of}
use Rattle.rx_engine.specs.declared.attempts.Won.{Won}
use Rattle.rx_engine.specs.declared.transcripts.Ending.{Ending}
use Rattle.rx_engine.specs.declared.transcripts.Ending.TheVariants.{NoMemory, Replied, ShutDown, SinkLost, SourceLost}
use Rattle.rx_engine.specs.declared.transcripts.Tally.{Tally}
use Rattle.rx_engine.specs.declared.transcripts.Transcript.{Transcript}
use Rattle.rx_engine.specs.Answers.{Grounds, HasGathered, HasWon, asked_of, done_reply, grounds}
use Rattle.rx_engine.specs.Attempts.{Attempts, HasAttempts, HasEndedHere, HasLocal, HasRemote, first_done, first_of, first_won, outcome_of, winner, won_by, won_remote}
use Rattle.rx_engine.specs.Honest.{IsCleanDone, IsCleanFrom, IsCleanIfDone, IsHonest, IsSteady, IsTrusted, IsTrustedFor, listed_tree, whole_entry}
use Rattle.rx_engine.specs.Journal.{IsEntry, IsJournalled, IsPlaced, files_of}
use Rattle.rx_engine.specs.Meanings.{Meanings}
use Rattle.rx_engine.specs.Plans.{has_remote}
use Rattle.rx_engine.specs.RemoteAttempts.{EndsThere, HasRunThere}
use Rattle.rx_engine.specs.Session.{IsCourse, IsSession, Replies, RepliesTo, tally_in}
use Rattle.rx_engine.proofs.Cases.{as-remote}
use Rattle.rx_engine.proofs.MadeLemmas.{if-some, unless-some, won-files, won-first}
use Rattle.rx_engine.proofs.RaceLemmas.{planned-there}

-- ---- the request

-- the request that was read is the one that the input told, whatever of that was read
pub same-request : (root : List ℕ) (old new : Option (List ℕ)) (bytes read : List ℕ) (served asked : Request)
    → old ≡ Some bytes → Consumes old new read → IsRequest root read served → IsRequest root bytes asked → served ≡ asked
same-request root None new bytes read served asked told consumed decoded valid = absurd (none-some told)
same-request root (Some xs) None bytes read served asked told consumed decoded valid = absurd consumed
same-request root (Some xs) (Some ys) bytes read served asked told consumed decoded valid =
    let whole : bytes ≡ read ++ ys = sym (some-is told) ∙ consumed in
    incoming-prefix root read ys served asked decoded (ap (incoming_of root) (sym whole) ∙ valid)

-- ---- what the source trees told

-- what a source tree that keeps its list answers and lists is right in the list's scene
right-by : (entries : List SourceEntry) (answer : Given) (bytes : Option (List ℕ)) → answer.bytes ≡ bytes → IsAnswerOf entries answer → IsRight (scene_of entries) answer
right-by entries answer None e h = record { look_is = h.look_is; bytes_are = rw e tt }
right-by entries answer (Some bytes) e h = record { look_is = h.look_is; bytes_are = rw e (rw e at h.bytes_are) }

all-right : (entries : List SourceEntry) (answers : List Given) → All (IsAnswerOf entries) answers → All (IsRight (scene_of entries)) answers
all-right entries answers h = All-weaker (IsAnswerOf entries) (IsRight (scene_of entries)) (λ answer. right-by entries answer answer.bytes refl) answers h

nothing-seen : (entries : List SourceEntry) (path : List ℕ) (look : Look) → None ≡ Some look → look ≡ (entry_at path entries).look
nothing-seen entries path look h = absurd (none-some h)

-- of what was told this holds
pub told-by : (P : List SourceEntry → Type 0) (o : Option (List SourceEntry)) (entries : List SourceEntry) → o ≡ Some entries → IfSome o P → P entries
told-by P None entries e h = absurd (none-some e)
told-by P (Some told) entries e h = let same : told ≡ entries = some-is e in subst P same h

-- what a session did, on which its replies stand
abbrev pub grounds_of : {P W B : Type 0} (m : Meanings P W B) (root : List ℕ) (before after : P) (t : Transcript) → IsSession m root before after t → Grounds P
grounds_of m root before after t s = grounds before after s.answers s.lists s.view

-- Tools are honest, and the source trees for gathering and for local attempts told what the list has and keep it.
pub record IsByList {P W B : Type 0} (m : Meanings P W B) (entries : List SourceEntry) (g : Grounds P) : Type 0 where
  pub tools_hold : m.world.tools_honest
  pub told : All (IsAnswerOf entries) g.answers
  pub lists : All (IsRightList (scene_of entries)) g.lists
  pub listed : m.tree.listed g.before ≡ Some entries
  pub kept : m.tree.keeps g.before
  pub local_listed : m.tree_local.listed g.before ≡ Some entries
  pub local_kept : m.tree_local.keeps g.before

-- the list's scene shows what the gathering was told
pub shows : {P W B : Type 0} (m : Meanings P W B) (entries : List SourceEntry) (g : Grounds P) → IsByList m entries g → Shows (scene_of entries) [] g.answers g.lists
shows m entries g h = record { seen = λ path look e. nothing-seen entries path look e; answered = all-right entries g.answers h.told; listed = h.lists }

pub by-list : {P W B : Type 0} (m : Meanings P W B) (root : List ℕ) (before after : P) (t : Transcript) (bytes : List ℕ) (asked : Request) (entries : List SourceEntry)
    → (s : IsSession m root before after t) → IsSteady m root before bytes asked entries → IsByList m entries (grounds_of m root before after t s)
by-list m root before after t bytes asked entries s h = record {
  tools_hold = h.tools;
  told = told-by (λ entries. All (IsAnswerOf entries) s.answers) (m.tree.listed before) entries h.listed (s.looked.gives.by_list h.kept_list);
  lists = told-by (λ entries. All (IsRightList (scene_of entries)) s.lists) (m.tree.listed before) entries h.listed (s.looked.by_list h.kept_list);
  listed = h.listed;
  kept = h.kept_list;
  local_listed = h.local_listed;
  local_kept = h.local_kept;
}

-- what the attempt was told when it read the files again
pub again : {P W B : Type 0} (m : Meanings P W B) (entries : List SourceEntry) (g : Grounds P) (gathered : Gathered) (told : Option Decision) (end : End Outcome Cause) → IsByList m entries g
    → (h : HasEndedHere m gathered told g.before g.after end) → All (IsAnswerOf entries) h.attempted.on.answers
again m entries g gathered told end b h =
    told-by (λ entries. All (IsAnswerOf entries) h.attempted.on.answers) (m.tree_local.listed g.before) entries b.local_listed (h.attempted.on.gives.by_list b.local_kept)

-- ---- a clean run

-- an outcome that is published is that of the one attempt or of the other
first-or : (one other : Option Won) (won : Won) → first_won one other ≡ Some won → (one ≡ Some won) ⊎ (other ≡ Some won)
first-or None other won h = inr h
first-or (Some first) other won h = inl h

either-won : (first : Attempt) (here there : Option Won) (won : Won) → won_by first here there ≡ Some won → (here ≡ Some won) ⊎ (there ≡ Some won)
either-won whose.Local here there won h = first-or here there won h
either-won whose.Remote here there won h = elim (first-or there here won h) [ inl a ↦ inr a | inr a ↦ inl a ]

-- what was gathered is right in the list's scene
pub gathered-by : {P W B : Type 0} (m : Meanings P W B) (entries : List SourceEntry) (g : Grounds P) (asked : Request) (gathered : Gathered) → IsByList m entries g → HasGathered m g asked gathered
    → IsGathered (scene_of entries) (asked_of asked) gathered
gathered-by m entries g asked gathered b h = h.by.shown (scene_of entries) (shows m entries g b)

-- each gathered file is as the list has it
pub files-listed : {P W B : Type 0} (m : Meanings P W B) (entries : List SourceEntry) (g : Grounds P) (asked : Request) (gathered : Gathered) → IsByList m entries g → m.world.stamps_honest
    → HasGathered m g asked gathered → All (IsAsListed entries) gathered.files
files-listed m entries g asked gathered b stamps h =
    told-by (λ entries. All (IsAsListed entries) gathered.files) (m.tree.listed g.before) entries b.listed (h.listed stamps b.kept)

-- the outcome of the local attempt is the clean one, from the list
clean-here : {P W B : Type 0} (m : Meanings P W B) (entries : List SourceEntry) (g : Grounds P) (gathered : Gathered) (told : Option Decision) (outcome : Outcome) (origin : Origin) → IsByList m entries g
    → HasEndedHere m gathered told g.before g.after (ends.Done outcome origin) → IsClean m.world.tool gathered.command (listed_tree entries gathered) outcome
clean-here m entries g gathered told outcome origin b h =
    let of = h.attempted.on.ended.of in
    subst (λ copies. IsClean m.world.tool gathered.command (tree_of copies gathered.dirs) outcome)
    (staged-listed entries gathered.files h.attempted.on.answers of.staged of.each (again m entries g gathered told (ends.Done outcome origin) b h)) (of.clean b.tools_hold)

-- the root of the tree that was gathered is that of the list's tree
root-listed : (entries : List SourceEntry) (gathered : Gathered) (root : Digest) → IsRootOfCopies gathered.files gathered.dirs root → All (IsAsListed entries) gathered.files
    → root ≡ root_of (listed_tree entries gathered)
root-listed entries gathered root copies listed =
    copies (listed_copy entries)
    (All-weaker (IsAsListed entries) (λ file. IsCopyOf file (listed_copy entries file)) (λ file here. record { path_is = refl; digest_is = here.digest_is; mark_is = refl }) gathered.files listed)

-- the end of a remote attempt on a farm that is trusted is right for the list's tree
pub right-there : {P W B : Type 0} (m : Meanings P W B) (entries : List SourceEntry) (g : Grounds P) (gathered : Gathered) (accepts : Bool) (told : Option Decision) (end : End Outcome RemoteCause)
    → All (IsAsListed entries) gathered.files → IsTrusted m g.before gathered.command (listed_tree entries gathered)
    → HasRunThere m.world m.farm m.tree_remote gathered accepts told g.before g.after g.before g.after end
    → IsRightEnd m.world.tool gathered.command (listed_tree entries gathered) end
right-there m entries g gathered accepts told end listed trusted h =
    let tree = listed_tree entries gathered in
    h.right tree trusted.genuine
    (subst (λ x. m.farm.vouches g.before (key_of gathered.command x (m.farm.dialect g.before)).digest gathered.command (m.world.tool gathered.command tree))
    (sym (root-listed entries gathered h.root h.tree.of_copies listed)) trusted.vouches)

failed-done : (outcome : Outcome) (origin : Origin) (cause : RemoteCause) → as-remote (ends.Done outcome origin) ≡ ends.Failed cause → ⊥
failed-done outcome origin cause e = cc e

-- so its outcome is the clean one
clean-there : {P W B : Type 0} (m : Meanings P W B) (entries : List SourceEntry) (g : Grounds P) (gathered : Gathered) (accepts : Bool) (told : Option Decision) (outcome : Outcome) (origin : Origin)
    → All (IsAsListed entries) gathered.files → IsTrusted m g.before gathered.command (listed_tree entries gathered)
    → EndsThere m.world m.farm m.tree_remote gathered accepts told g.before g.after g.before g.after (ends.Done outcome origin)
    → IsClean m.world.tool gathered.command (listed_tree entries gathered) outcome
clean-there m entries g gathered accepts told outcome origin listed trusted (inl h) = absurd (failed-done outcome origin remote_causes.NoMemory h.0)
clean-there m entries g gathered accepts told outcome origin listed trusted (inr h) =
    (right-there m entries g gathered accepts told (ends.Done outcome origin) listed trusted h).clean outcome origin refl

module _ {P W B : Type 0} (m : Meanings P W B) (entries : List SourceEntry) (g : Grounds P) (asked : Request) (b : IsByList m entries g) (farm : IsTrustedFor m g.before entries (asked_of asked))
    (gathered : Gathered) (inputs : HasGathered m g asked gathered) where
  -- the farm is trusted where the plan has a remote attempt
  pub trusted : has_remote gathered.plan ≡ true → IsTrusted m g.before gathered.command (listed_tree entries gathered)
  trusted has = farm gathered (gathered-by m entries g asked gathered b inputs) inputs.orderly has

  won-there : (told : Option Decision) (remote : Option (End Outcome RemoteCause)) (won : Won) → HasRemote m gathered asked.accept_cached told g.before g.after remote
      → (is_some remote ≡ true → has_remote gathered.plan ≡ true) → won_remote gathered.plan remote ≡ Some won → IsClean m.world.tool gathered.command (listed_tree entries gathered) won.outcome
  won-there told None won h started w = absurd (none-some w)
  won-there told (Some (ends.Failed cause)) won h started w = absurd (none-some w)
  won-there told (Some (ends.Done outcome origin)) won h started w =
      let here = trusted (started refl) in
      let same : outcome ≡ won.outcome = ap (λ (x : Won). x.outcome) (if-some (is_zero outcome.exit.code || is_remote_only gathered.plan) (record { outcome = outcome; origin = origin }) won w) in
      subst (λ x. IsClean m.world.tool gathered.command (listed_tree entries gathered) x) same
      (clean-there m entries g gathered asked.accept_cached told outcome origin (files-listed m entries g asked gathered b here.stamps inputs) here h)

  won-here : (told : Option Decision) (local : Option (End Outcome Cause)) (won : Won) → HasLocal m gathered told g.before g.after local → outcome_of local ≡ Some won
      → IsClean m.world.tool gathered.command (listed_tree entries gathered) won.outcome
  won-here told None won h w = absurd (none-some w)
  won-here told (Some (ends.Failed cause)) won h w = absurd (none-some w)
  won-here told (Some (ends.Done outcome origin)) won h w =
      let same : outcome ≡ won.outcome = ap (λ (x : Won). x.outcome) (some-is w) in
      subst (λ x. IsClean m.world.tool gathered.command (listed_tree entries gathered) x) same (clean-here m entries g gathered told outcome origin b h)

  -- the outcome that is published is the clean one, from the list
  won-clean : (attempts : Attempts) (won : Won) → HasAttempts m gathered asked.accept_cached g.before g.after attempts → winner gathered.plan attempts ≡ Some won
      → IsClean m.world.tool gathered.command (listed_tree entries gathered) won.outcome
  won-clean attempts won made w =
      let here : Option Won = outcome_of attempts.local in
      let there : Option Won = won_remote gathered.plan attempts.remote in
      elim (either-won (first_of attempts) here there won (unless-some attempts.passes.cancel (won_by (first_of attempts) here there) won w)) [
        | inl one ↦ won-here attempts.told_local attempts.local won made.local one
        | inr one ↦ won-there attempts.told_remote attempts.remote won made.remote (planned-there m gathered asked.accept_cached g.before g.after attempts made) one
      ]

clean-from : {P W B : Type 0} (m : Meanings P W B) (entries : List SourceEntry) (g : Grounds P) (asked : Request) (tally : Tally) (won : Won)
    → IsByList m entries g → IsTrustedFor m g.before entries (asked_of asked) → HasWon m g asked tally won → IsCleanFrom m.world.tool entries (asked_of asked) won.outcome
clean-from m entries g asked tally won b farm h =
    let run = h.run in
    record {
      gathered = run.gathered;
      inputs = gathered-by m entries g asked run.gathered b run.inputs;
      orderly = run.inputs.orderly;
      clean = won-clean m entries g asked b farm run.gathered run.inputs run.attempts won run.made h.won_is;
    }

-- the entry of a session that is done has all files of its outcome
whole : (limit : ℕ) (old new : List Entry) (pb pn : ℕ) (t : Transcript) (won : Won) (number : ℕ)
    → IsJournalled limit old new pb pn t → t.receipt ≡ Some (record { number = number }) → t.reply ≡ Some (done_reply won number) → files_of t.ends ≡ listing won.outcome.files
    → new ≡ old ++ whole_entry number t.number won.outcome ∷ []
whole limit old new pb pn t won number j receipt answer files =
    let entry : IsEntry old new pb pn t.number (record { number = number }) (files_of t.ends) t.reply =
    subst (λ o. MatchOption o (new ≡ old) (λ n. IsEntry old new pb pn t.number n (files_of t.ends) t.reply)) receipt j.entry in
    let placed : IsPlaced pb pn (length (files_of t.ends)) entry.placed (Some (done_reply won number)) =
    subst (λ o. IsPlaced pb pn (length (files_of t.ends)) entry.placed o) answer entry.placed_is in
    entry.journal
    ∙ ap (λ p. old ++ record { number = number; session = t.number; files = files_of t.ends; placed = p } ∷ []) (sym placed.0)
    ∙ ap (λ f. old ++ record { number = number; session = t.number; files = f; placed = length won.outcome.files } ∷ []) files

module _ {P W B : Type 0} (m : Meanings P W B) (root : List ℕ) (before after : P) (limit : ℕ) (old new : List Entry) (pb pn : ℕ) (t : Transcript) (bytes : List ℕ) (asked : Request) (entries : List SourceEntry)
    (s : IsSession m root before after t) (j : IsJournalled limit old new pb pn t) (h : IsHonest m root before bytes asked entries)
    (exit : ℤ) (stdout stderr : List ℕ) (from : Origin) (number placed : ℕ) (is_done : t.reply ≡ Some (reply.Done exit stdout stderr from number placed)) where
  done-at : (answer : Reply) → t.reply ≡ Some answer → Replies m root (grounds_of m root before after t s) t.read t.request t.receipt (tally_in t) answer
      → IsCleanDone m.world.tool entries (asked_of asked) old new t number
  done-at answer e replies =
      let g : Grounds P = grounds_of m root before after t s in
      let done : RepliesTo m root g t.read t.request t.receipt (tally_in t) (reply.Done exit stdout stderr from number placed) =
      subst (λ a. Replies m root g t.read t.request t.receipt (tally_in t) a) (some-is (sym e ∙ is_done)) replies in
      let same : done.0 ≡ asked = same-request root (m.input.left before) (m.input.left after) bytes t.read done.0 asked h.steady.told s.read done.1.decoded h.steady.valid in
      let won : Won = done.2.0 in
      let has : HasWon m g asked (tally_in t) won = subst (λ x. HasWon m g x (tally_in t) won) same done.2.1 in
      let run = has.run in
      let reply_is : t.reply ≡ Some (done_reply won number) = is_done ∙ ap (λ a. Some a) done.2.2 in
      record {
        won = won;
        clean = clean-from m entries g asked (tally_in t) won (by-list m root before after t bytes asked entries s h.steady) h.farm has;
        reply_is = reply_is;
        end_is = ap (λ (x : Tally). first_done x.ends) run.tally_is ∙ won-first m run.gathered asked.accept_cached before after run.attempts run.made won has.won_is;
        entry = whole limit old new pb pn t won number j done.2.3 reply_is (won-files m run.gathered asked.accept_cached before after run.attempts run.made won (tally_in t) has.won_is run.tally_is);
      }

  done-by : (ending : Ending) → IsCourse m root (grounds_of m root before after t s) t ending → IsCleanDone m.world.tool entries (asked_of asked) old new t number
  done-by Replied c = done-at c.0 c.1 c.3
  done-by ShutDown c = absurd (none-some (sym c.0.reply_is ∙ is_done))
  done-by SinkLost (inl c) = done-at c.0 c.1 c.4
  done-by SinkLost (inr c) = absurd (none-some (sym c.2.reply_is ∙ is_done))
  done-by SourceLost c = absurd (none-some (sym c.0 ∙ is_done))
  done-by NoMemory c = absurd (none-some (sym c.0 ∙ is_done))

pub clean-done : {P W B : Type 0} (m : Meanings P W B) (root : List ℕ) (before after : P) (limit : ℕ) (old new : List Entry) (pb pn : ℕ) (t : Transcript) (bytes : List ℕ) (asked : Request) (entries : List SourceEntry)
    → IsSession m root before after t → IsJournalled limit old new pb pn t → IsHonest m root before bytes asked entries
    → IsCleanIfDone m.world.tool entries (asked_of asked) old new t
clean-done m root before after limit old new pb pn t bytes asked entries s j h = λ exit stdout stderr from number placed e.
    done-by m root before after limit old new pb pn t bytes asked entries s j h exit stdout stderr from number placed e t.ending s.course
