-- What blobs say of a tree: a walk from a digest down.
use Rattle.std.specs.Prelude.{ℕ, zero, suc, ◌+◌, ◌==◌, ◌&&◌, not, Bool, List, [], ◌∷◌, ◌++◌, length, nat_le, nat_lt, Option, Some, None, Result, Ok, Err, if◌then◌else◌}
use Rattle.rx_base.specs.declared.digests.Digest.{Digest}
use Rattle.rx_base.specs.declared.path_fault.PathFault.{PathFault}
use Rattle.rx_base.specs.Paths.{join_of}
use Rattle.rx_base.specs.Results.{◌>>=◌}
use Rattle.rx_codec.specs.declared.faults.MessageFault.{MessageFault}
use Rattle.rx_messages.specs.declared.nodes.FileNode.{FileNode}
use Rattle.rx_messages.specs.declared.nodes.DirectoryNode.{DirectoryNode}
use Rattle.rx_messages.specs.declared.directories.Directory.{Directory}
use Rattle.rx_codec.specs.Decoding.{decoded}
use Rattle.rx_messages.specs.Directories.{directory_from, directory_has_one_form, directory_parts}
use Rattle.rx_tree.specs.declared.blobs.Blob.{Blob}
use Rattle.rx_tree.specs.declared.listings.TreeFile.{TreeFile}
use Rattle.rx_tree.specs.declared.walks.Seen.{Seen}
use Rattle.rx_tree.specs.declared.walks.Sub.{Sub}
use Rattle.rx_tree.specs.declared.tree_fault.TreeFault.{TreeFault}
use Rattle.rx_tree.specs.declared.tree_fault.TreeFault.TheVariants.{TooManyFiles, MissingBlob, NotCanonical}
use Rattle.rx_tree.specs.Blobs.{blob_at}
use Rattle.rx_tree.specs.Refusals.{most_files}

-- ---- one Directory

-- the Directory of some bytes, which only its canonical form is
abbrev pub read_directory : List ℕ → Result Directory MessageFault
read_directory bytes = decoded directory_parts directory_from directory_has_one_form bytes

abbrev pub canonical : {A : Type 0} → Digest → Result A MessageFault → Result A TreeFault
canonical digest (Ok x) = Ok x
canonical digest (Err fault) = Err (NotCanonical digest)

abbrev pub of_blob : Digest → Option (List ℕ) → Result Directory TreeFault
of_blob digest None = Err (MissingBlob digest)
of_blob digest (Some bytes) = canonical digest (read_directory bytes)

-- the Directory that a digest names
abbrev pub directory_at : Digest → List Blob → Result Directory TreeFault
directory_at digest blobs = of_blob digest (blob_at digest blobs)

abbrev pub fitting : {A : Type 0} → Digest → Result A PathFault → Result A TreeFault
fitting digest (Ok x) = Ok x
fitting digest (Err fault) = Err (NotCanonical digest)

-- the path of a name in the directory at a path; it may not be too long
unfoldable pub child_of : Digest → List ℕ → List ℕ → Result (List ℕ) TreeFault
child_of digest path name = fitting digest (join_of path name)

abbrev pub named_by : {A : Type 0} → Digest → Option A → Result A TreeFault
named_by digest None = Err (NotCanonical digest)
named_by digest (Some x) = Ok x

-- what the nodes of the directory at a path tell, each by its path and digest, after other items
unfoldable pub with_nodes : {N T : Type 0} → (N → List ℕ) → (N → Option Digest) → (N → List ℕ → Digest → T) → Digest → List ℕ → List N → List T → Result (List T) TreeFault
with_nodes name content told digest path [] items = Ok items
with_nodes name content told digest path (node ∷ nodes) items = do
  child ← child_of digest path (name node)
  named ← named_by digest (content node)
  with_nodes name content told digest path nodes (items ++ told node child named ∷ [])

-- the files of the directory at a path, after others
abbrev pub with_files : Digest → List ℕ → List FileNode → List TreeFile → Result (List TreeFile) TreeFault
with_files digest path nodes files =
    with_nodes (λ (node : FileNode). node.name) (λ (node : FileNode). node.digest)
    (λ (node : FileNode) child named. record { path = child; digest = named; executable = node.is_executable }) digest path nodes files

-- the directories of the directory at a path, after others
abbrev pub with_subs : Digest → List ℕ → List DirectoryNode → List Sub → Result (List Sub) TreeFault
with_subs digest path nodes subs =
    with_nodes (λ (node : DirectoryNode). node.name) (λ (node : DirectoryNode). node.digest)
    (λ (node : DirectoryNode) child named. record { path = child; digest = named }) digest path nodes subs

-- whether a Directory has no entry
abbrev pub is_bare : Directory → Bool
is_bare directory = length directory.files == 0 && (length directory.directories == 0 && length directory.symlinks == 0)

-- a directory without any entry is told by its path, but the root isn't
abbrev pub with_bare : List ℕ → Directory → List (List ℕ) → List (List ℕ)
with_bare path directory dirs = if not (length path == 0) && is_bare directory then dirs ++ path ∷ [] else dirs

-- ---- the walk

-- what was seen after a directory was entered, and the directories that are to be entered next
pub record Entered : Type 0 where
  pub seen : Seen
  pub subs : List Sub

abbrev pub entered_with : Seen → List Sub → Entered
entered_with seen subs = record { seen = seen; subs = subs }

-- not too many files
abbrev pub bounded : Entered → Result Entered TreeFault
bounded found = if nat_lt most_files (length found.seen.files) then Err TooManyFiles else Ok found

-- One directory: it counts, and so do its files.
unfoldable pub entered : List Blob → Digest → List ℕ → Seen → Result Entered TreeFault
entered blobs digest path seen =
    if nat_le most_files seen.entered then Err TooManyFiles
    else do
      directory ← directory_at digest blobs
      files ← with_files digest path directory.files seen.files
      subs ← with_subs digest path directory.directories []
      bounded (entered_with (record { entered = seen.entered + 1; files = files; dirs = with_bare path directory seen.dirs }) subs)

-- one after the other
abbrev pub each : (Sub → Seen → Result Seen TreeFault) → List Sub → Seen → Result Seen TreeFault
each go [] seen = Ok seen
each go (sub ∷ subs) seen = go sub seen >>= (λ next. each go subs next)

-- A directory and all below it, at most so many levels: first the directory itself, then those in it by their names, each
-- with all below it. A refusal ends the walk.
unfoldable pub walked : ℕ → List Blob → Digest → List ℕ → Seen → Result Seen TreeFault
walked zero blobs digest path seen = Err TooManyFiles
walked (suc most) blobs digest path seen = do
  found ← entered blobs digest path seen
  each (λ sub next. walked most blobs sub.digest sub.path next) found.subs found.seen
