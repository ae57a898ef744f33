-- The blobs that a farm needs for an action.
use Rattle.std.specs.Prelude.{◌≡◌, ◌++◌, ℕ, Bool, List, ◌∷◌, Contains, map}
use Rattle.rx_base.specs.Digests.{digest_of}
use Rattle.rx_base.specs.SortedPaths.{HasSameMembers}
use Rattle.rx_base.specs.declared.digests.Digest.{Digest}
use Rattle.rx_exec_messages.specs.Calls.{IsPartOf}
use Rattle.rx_world.specs.declared.commands.Command.{Command}
use Rattle.rx_world.specs.declared.input_files.InputFile.{InputFile}
use Rattle.rx_blobs.specs.declared.blobs.Blob.{Blob}
use Rattle.rx_blobs.specs.declared.blobs.Blob.TheVariants.{File, Made}
use Rattle.rx_blobs.specs.Uploads.{AreMade, digests_of_blobs}
use Rattle.rx_tree.specs.Blobs.{HasNoRepeats}
use Rattle.rx_tree.specs.declared.blobs.Blob.{Blob as Directory}
use Rattle.rx_action.specs.declared.action_keys.ActionKey.{ActionKey}
use Rattle.rx_remote.specs.declared.jobs.Action.{Action}

-- what an attempt is about: the command, whether a result of the farm's cache is taken, and the input tree with its files
pub record Work : Type 0 where
  pub command : Command
  pub accept_cached : Bool
  pub root : Digest
  pub directories : List Directory
  pub files : List InputFile

abbrev pub made_blob : Digest → List ℕ → Blob
made_blob digest bytes = Made (record { digest = digest; bytes = bytes })

abbrev pub directory_blob : Directory → Blob
directory_blob directory = made_blob directory.digest directory.bytes

abbrev pub file_blob : InputFile → Blob
file_blob file = File file

-- The Action, the Command, the Directories and the files. A digest may stand there twice.
abbrev pub all_blobs : ActionKey → Work → List Blob
all_blobs key work =
    made_blob key.digest key.action_blob ∷ made_blob key.command_digest key.command_blob ∷
    map directory_blob work.directories ++ map file_blob work.files

-- Some of the blobs, in their order: each digest once, and none is left out.
pub record AreOnceEach (all first : List Blob) : Type 0 where
  pub part : IsPartOf first all
  pub members : HasSameMembers (digests_of_blobs all) (digests_of_blobs first)
  pub once : HasNoRepeats (digests_of_blobs first)

-- the same amid a walk over the blobs: these digests were seen
pub record AreCollected (all first : List Blob) (seen : List Digest) : Type 0 where
  pub once_each : AreOnceEach all first
  pub seen_are : HasSameMembers seen (digests_of_blobs first)

-- each Directory has the digest of its bytes
abbrev pub AreNamed : List Directory → Type 0
AreNamed directories = (directory : Directory) → Contains directories directory → digest_of directory.bytes ≡ directory.digest

-- each blob has the digest of its bytes, and each file is one of the job's
pub record IsReady (action : Action) : Type 0 where
  pub made : AreMade action.blobs.now
  pub within : (file : InputFile) → Contains action.blobs.now (File file) → Contains action.job.files.now file

-- the digests of its blobs
abbrev pub stored_of : Action → List Digest
stored_of action = digests_of_blobs action.blobs.now
