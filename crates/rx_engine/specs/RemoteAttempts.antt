-- The remote attempt of a session: the tree that it is about, and how it ended.
use Rattle.std.specs.Prelude.{◌≡◌, ◌⊎◌, Bool, List, [], Option, None, All, IfSome, map}
use Rattle.rx_action.specs.OutputPaths.{AreBelow}
use Rattle.rx_base.specs.Digests.{digest_of}
use Rattle.rx_base.specs.SortedPaths.{AreSorted, HasSameMembers}
use Rattle.rx_base.specs.declared.digests.Digest.{Digest}
use Rattle.rx_exec_messages.specs.declared.callers.Caller as callers
use Rattle.rx_exec_messages.specs.Calls.{Stays}
use Rattle.rx_exec_messages.specs.Exchanged.{HasExchanged}
use Rattle.rx_remote.specs.Actions.{Work}
use Rattle.rx_remote.specs.Ends.{StopTellsEnd}
use Rattle.rx_remote.specs.Fine.{IsEndOf}
use Rattle.rx_remote.specs.Reading.{HasRead, IsOwnCause, IsUnchanged}
use Rattle.rx_remote.specs.Runs.{EndsOr, IsRightFor, IsSoundEnd}
use Rattle.rx_scan.specs.declared.gathering.Gathered.{Gathered}
use Rattle.rx_tree.specs.declared.blobs.Blob.{Blob as Directory}
use Rattle.rx_tree.specs.Blobs.{HasNoRepeats, blob_of}
use Rattle.rx_tree.specs.Entries.{entries_of}
use Rattle.rx_tree.specs.Refusals.{CanBeBuilt}
use Rattle.rx_tree.specs.Trees.{all_bytes, tree, tree_bytes}
use Rattle.rx_tree.specs.WorldTrees.{IsRootOfCopies}
use Rattle.rx_world.specs.declared.attempts.End.{End}
use Rattle.rx_world.specs.declared.attempts.End.TheVariants as ends
use Rattle.rx_world.specs.declared.decisions.Decision.{Decision}
use Rattle.rx_world.specs.declared.outcomes.Outcome.{Outcome}
use Rattle.rx_world.specs.declared.remote_causes.RemoteCause.{RemoteCause}
use Rattle.rx_world.specs.declared.remote_causes.RemoteCause.TheVariants as causes
use Rattle.rx_world.specs.declared.sources.Sources as sources
use Rattle.rx_world.specs.declared.world.World as world
use Rattle.rx_world.specs.Answers.{Gives}
use Rattle.rx_world.specs.Inputs.{IsAsListed}

-- ---- what it is about

-- This is the digest of the root of the gathered files and directories, as a tree of the world has it too, and these are its Directories.
pub record IsTreeOf (gathered : Gathered) (root : Digest) (directories : List Directory) : Type 0 where
  pub root_is : root ≡ digest_of (tree_bytes (tree (entries_of gathered.files gathered.dirs)))
  pub of_copies : IsRootOfCopies gathered.files gathered.dirs root
  pub directories_are : HasSameMembers (map blob_of (all_bytes (tree (entries_of gathered.files gathered.dirs)))) directories
  pub once : HasNoRepeats directories

-- the gathered command, on a tree with this root and these Directories
abbrev pub work_on : Gathered → Bool → Digest → List Directory → Work
work_on gathered accepts root directories = record {
  command = gathered.command;
  accept_cached = accepts;
  root = root;
  directories = directories;
  files = gathered.files;
}

-- what was gathered has a tree, and the outputs of its command are sorted and below the working directory
pub record FitsFarm (gathered : Gathered) : Type 0 where
  pub tree : CanBeBuilt gathered.files gathered.dirs
  pub sorted : AreSorted gathered.command.outputs
  pub below : AreBelow gathered.command.working_directory gathered.command.outputs

-- ---- how it ended

-- Nothing was asked of the farm: the client's conversation and its count are the same, and what it vouches for stays.
pub record IsUnasked {C W : Type 0} (c : callers.Ghosts C W) (before after : C) : Type 0 where
  pub conversation_is : c.conversation after ≡ c.conversation before
  pub stays : Stays c.vouches c.genuine c.dialect before after
  pub faults_are : c.faults after ≡ c.faults before

-- Nothing was asked of the farm, and the source tree that remote attempts read answered nothing and has the same count.
pub record IsIdleThere {C T W : Type 0} (w : world.Ghosts W) (c : callers.Ghosts C W) (s : sources.Ghosts T W) (farm_before farm_after : C)
    (before after : T) : Type 0 where
  pub unasked : IsUnasked c farm_before farm_after
  pub unread : Gives w s before after []
  pub source_is : s.faults after ≡ s.faults before

-- The remote attempt was made on what was gathered, and ended so: by a legal history on the tree of that, or for want of memory. Where the
-- farm's client is genuine and vouches for the clean run, an outcome is that. It is stopped exactly by the decision that it was told of.
pub record HasRunThere {C T W : Type 0} (w : world.Ghosts W) (c : callers.Ghosts C W) (s : sources.Ghosts T W) (gathered : Gathered)
    (accepts : Bool) (told : Option Decision) (farm_before farm_after : C) (before after : T) (end : End Outcome RemoteCause) : Type 0 where
  pub root : Digest
  pub directories : List Directory
  pub tree : IsTreeOf gathered root directories
  pub ended : EndsOr c (work_on gathered accepts root directories) farm_before farm_after end
  pub right : IsRightFor w c (work_on gathered accepts root directories) farm_before end
  pub sound : IsSoundEnd gathered.command end
  pub stays : HasExchanged c farm_before farm_after (λ part. Unit {0})
  pub own : HasRead w s gathered.files before after (λ answers.
      IsEndOf (IsOwnCause gathered.files answers (s.faults before) (s.faults after) told) end)
  pub stopped : StopTellsEnd None told end
  pub unchanged : s.keeps before → IfSome (s.listed before) (λ entries. All (IsAsListed entries) gathered.files → IsEndOf IsUnchanged end)

-- that, or memory ran out before anything was asked
abbrev pub EndsThere : {C T W : Type 0} → world.Ghosts W → callers.Ghosts C W → sources.Ghosts T W → Gathered → Bool → Option Decision
    → C → C → T → T → End Outcome RemoteCause → Type 0
EndsThere w c s gathered accepts told farm_before farm_after before after end =
    ((end ≡ ends.Failed causes.NoMemory) × (told ≡ None) × IsIdleThere w c s farm_before farm_after before after)
    ⊎ HasRunThere w c s gathered accepts told farm_before farm_after before after end
