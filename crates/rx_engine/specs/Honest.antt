-- Sessions in an honest world, and what a Done says there.
use Rattle.std.specs.Prelude.{◌≡◌, ℕ, ℤ, true, List, [], ◌∷◌, ◌++◌, Some, length, map}
use Rattle.rx_action.specs.ActionKeys.{key_of}
use Rattle.rx_board.specs.declared.journal.Entry.{Entry}
use Rattle.rx_reach.specs.Scenes.{scene_of}
use Rattle.rx_scan.specs.declared.gathering.Gathered.{Gathered}
use Rattle.rx_scan.specs.Gathering.{Asked, IsGathered, IsOrderly}
use Rattle.rx_session.specs.declared.replies.Reply.TheVariants as reply
use Rattle.rx_session.specs.declared.requests.Request.{Request}
use Rattle.rx_session.specs.Frames.{IsRequest}
use Rattle.rx_tree.specs.WorldTrees.{root_of}
use Rattle.rx_world.specs.declared.attempts.Origin.{Origin}
use Rattle.rx_world.specs.declared.commands.Command.{Command}
use Rattle.rx_world.specs.declared.outcomes.Outcome.{Outcome}
use Rattle.rx_world.specs.declared.sources.SourceEntry.{SourceEntry}
use Rattle.rx_world.specs.declared.trees.Tree.{Tree}
use Rattle.rx_world.specs.Inputs.{listed_copy}
use Rattle.rx_world.specs.Outcomes.{IsClean, kept, listing}
use Rattle.rx_world.specs.Trees.{tree_of}
use Rattle.rx_engine.specs.declared.attempts.Won.{Won}
use Rattle.rx_engine.specs.declared.transcripts.Transcript.{Transcript}
use Rattle.rx_engine.specs.Answers.{asked_of, done_reply}
use Rattle.rx_engine.specs.Attempts.{first_done}
use Rattle.rx_engine.specs.Meanings.{Meanings}
use Rattle.rx_engine.specs.Plans.{has_remote}

-- The tools are honest, the input tells a valid request, and the source trees for gathering and for local attempts tell this list and keep it.
pub record IsSteady {P W B : Type 0} (m : Meanings P W B) (root : List ℕ) (before : P) (bytes : List ℕ) (asked : Request)
    (entries : List SourceEntry) : Type 0 where
  pub tools : m.world.tools_honest
  pub told : m.input.left before ≡ Some bytes
  pub valid : IsRequest root bytes asked
  pub listed : m.tree.listed before ≡ Some entries
  pub kept_list : m.tree.keeps before
  pub local_listed : m.tree_local.listed before ≡ Some entries
  pub local_kept : m.tree_local.keeps before

-- the tree of what was gathered, with the contents that the list has
abbrev pub listed_tree : List SourceEntry → Gathered → Tree
listed_tree entries gathered = tree_of (map (listed_copy entries) gathered.files) gathered.dirs

-- Stamps are honest, and the farm's client is genuine and vouches for what the tool makes of the command on a tree, at the digest of
-- the action on that tree under its farm's own dialect.
pub record IsTrusted {P W B : Type 0} (m : Meanings P W B) (before : P) (command : Command) (tree : Tree) : Type 0 where
  pub stamps : m.world.stamps_honest
  pub genuine : m.farm.genuine before
  pub vouches : m.farm.vouches before (key_of command (root_of tree) (m.farm.dialect before)).digest command (m.world.tool command tree)

-- Of whatever is gathered from the list, that holds where the plan has a remote attempt.
abbrev pub IsTrustedFor : {P W B : Type 0} → Meanings P W B → P → List SourceEntry → Asked → Type 0
IsTrustedFor m before entries asked =
    (gathered : Gathered) → IsGathered (scene_of entries) asked gathered → IsOrderly asked gathered → has_remote gathered.plan ≡ true →
    IsTrusted m before gathered.command (listed_tree entries gathered)

-- the same, and the farm is trusted where it is asked
pub record IsHonest {P W B : Type 0} (m : Meanings P W B) (root : List ℕ) (before : P) (bytes : List ℕ) (asked : Request)
    (entries : List SourceEntry) : Type 0 where
  pub steady : IsSteady m root before bytes asked entries
  pub farm : IsTrustedFor m before entries (asked_of asked)

-- The outcome is the clean run of what is asked for: of the gathered command, on just the files and directories that the list has of
-- its inputs, with the list's contents.
pub record IsCleanFrom (tool : Command → Tree → Outcome) (entries : List SourceEntry) (asked : Asked) (outcome : Outcome) : Type 0 where
  pub gathered : Gathered
  pub inputs : IsGathered (scene_of entries) asked gathered
  pub orderly : IsOrderly asked gathered
  pub clean : IsClean tool gathered.command (listed_tree entries gathered) outcome

-- the entry of a session whose outcome was placed whole
abbrev pub whole_entry : ℕ → ℕ → Outcome → Entry
whole_entry number session outcome = record { number = number; session = session; files = listing outcome.files; placed = length outcome.files }

-- The reply, the end that is kept and the entry of the session are those of such an outcome.
pub record IsCleanDone (tool : Command → Tree → Outcome) (entries : List SourceEntry) (asked : Asked) (old new : List Entry) (t : Transcript)
    (number : ℕ) : Type 0 where
  pub won : Won
  pub clean : IsCleanFrom tool entries asked won.outcome
  pub reply_is : t.reply ≡ Some (done_reply won number)
  pub end_is : first_done t.ends ≡ Some (kept won.outcome)
  pub entry : new ≡ old ++ whole_entry number t.number won.outcome ∷ []

-- where the session is done, it is done so
abbrev pub IsCleanIfDone : (Command → Tree → Outcome) → List SourceEntry → Asked → List Entry → List Entry → Transcript → Type 0
IsCleanIfDone tool entries asked old new t =
    (exit : ℤ) (stdout stderr : List ℕ) (from : Origin) (number placed : ℕ) → t.reply ≡ Some (reply.Done exit stdout stderr from number placed) →
    IsCleanDone tool entries asked old new t number
