-- Which blobs a farm needs of an action, by their digests: an Action names its Command and its input root, each Directory what is in
-- it (remote_execution.proto, Action, Directory).
use Rattle.std.specs.Prelude.{List, ◌∷◌, ◌++◌, map}
use Rattle.rx_base.specs.Digests.{by_digest}
use Rattle.rx_base.specs.SortedPaths.{sorted_once}
use Rattle.rx_base.specs.declared.digests.Digest.{Digest}
use Rattle.rx_tree.specs.declared.blobs.Blob.{Blob}
use Rattle.rx_tree.specs.declared.trees.Built.{Built}
use Rattle.rx_world.specs.declared.input_files.InputFile.{InputFile}
use Rattle.rx_action.specs.declared.action_keys.ActionKey.{ActionKey}

abbrev pub blob_digest : Blob → Digest
blob_digest blob = blob.digest

abbrev pub file_digest : InputFile → Digest
file_digest file = file.digest

-- the Action, its Command, each Directory and each content of a file, each digest once and in order
abbrev pub digests_of_action : ActionKey → Built → List InputFile → List Digest
digests_of_action key built files =
    sorted_once by_digest (key.digest ∷ key.command_digest ∷ map blob_digest built.blobs ++ map file_digest files)
