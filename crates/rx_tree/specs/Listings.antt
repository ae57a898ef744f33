-- What a list of paths lists, and when two trees have the same bytes throughout.
use Rattle.std.specs.Prelude.{◌≡◌, ◌≢◌, ◌↔◌, ◌<◌, ◌≤◌, ◌^◌, ℕ, true, List, [], ◌∷◌, length, Option, None, Some, option_and_then, option_map, IfSome, Result, Ok, Err, if◌then◌else◌}
use Rattle.std.specs.List.{AllByRecursion, Contains}
use Rattle.std.specs.List.Sorted.{IsStrictlySortedBy}
use Rattle.std.specs.Str.{bytes_eq}
use Rattle.hex.specs.Hex.{IsBytes}
use Rattle.rx_base.specs.Digests.{digest_of}
use Rattle.rx_base.specs.Paths.{IsPath, is_below}
use Rattle.rx_base.specs.declared.digests.Digest.{Digest}
use Rattle.rx_tree.specs.declared.blobs.Blob.{Blob}
use Rattle.rx_tree.specs.declared.listings.Listed.{Listed}
use Rattle.rx_tree.specs.declared.listings.TreeFile.{TreeFile}
use Rattle.rx_tree.specs.declared.tree_fault.TreeFault.{TreeFault}
use Rattle.rx_tree.specs.declared.tree_fault.TreeFault.TheVariants.{TooManyFiles, DuplicatePath, FileUnderFile, MissingBlob, NotCanonical, NoMemory}
use Rattle.rx_tree.specs.Entries.{Content, Entry}
use Rattle.rx_tree.specs.Lists.{ListsTree, by_path}
use Rattle.rx_tree.specs.Refusals.{IsApart, by_bytes, most_files}
use Rattle.rx_tree.specs.Trees.{Tree, End, File, Dir, all_bytes, tree, tree_bytes}

-- ---- the bytes at each path

-- the directory of a name
abbrev pub dir_at : List ℕ → Tree → Option Tree
dir_at name End = None
dir_at name (File other content others) = dir_at name others
dir_at name (Dir other sub others) = if bytes_eq other name then Some sub else dir_at name others

-- the directory at a path
abbrev pub tree_in : List (List ℕ) → Tree → Option Tree
tree_in [] t = Some t
tree_in (name ∷ names) t = option_and_then (λ sub. tree_in names sub) (dir_at name t)

-- the bytes of the Directory at a path
abbrev pub bytes_in : List (List ℕ) → Tree → Option (List ℕ)
bytes_in names t = option_map tree_bytes (tree_in names t)

-- Both have a directory at the same paths, and there the same bytes.
abbrev pub HasSameBytes : Tree → Tree → Type 0
HasSameBytes t u = (names : List (List ℕ)) → bytes_in names t ≡ bytes_in names u

-- ---- what a list of paths lists

-- the file at a path
abbrev pub ListsFile : List Entry → List ℕ → Content → Type 0
ListsFile entries path content = Contains entries (record { path = path; file = Some content })

-- a directory that isn't the root, with no entry below it
pub record ListsDir (entries : List Entry) (path : List ℕ) : Type 0 where
  pub listed : Contains entries (record { path = path; file = None })
  pub below_root : path ≢ []
  pub bare : (entry : Entry) → Contains entries entry → is_below entry.path path ≡ true → ⊥

-- both list the same
pub record ListsSame (entries others : List Entry) : Type 0 where
  pub files : (path : List ℕ) (content : Content) → ListsFile entries path content ↔ ListsFile others path content
  pub dirs : (path : List ℕ) → ListsDir entries path ↔ ListsDir others path

-- ---- lists of paths that have a tree

-- a hash of 32 bytes, and a size of 64 bits
pub record IsDigest (digest : Digest) : Type 0 where
  pub long : length digest.hash ≡ 32
  pub bytes : IsBytes digest.hash
  pub fits : digest.size < 2 ^ 64

-- an entry of a path, with a digest where it is a file
pub record IsEntry (entry : Entry) : Type 0 where
  pub path : IsPath entry.path
  pub file : IfSome entry.file (λ content. IsDigest content.digest)

-- entries that have a tree
pub record HasTree (entries : List Entry) : Type 0 where
  pub each : AllByRecursion IsEntry entries
  pub apart : IsApart entries

-- no file's path is the root
abbrev pub HasNoRootFile : List Entry → Type 0
HasNoRootFile entries = (content : Content) → ListsFile entries [] content → ⊥

-- Every other list whose tree has the same bytes throughout lists the same.
abbrev pub IsToldByBytes : List Entry → Type 0
IsToldByBytes entries =
    HasNoRootFile entries → (others : List Entry) → HasTree others → HasNoRootFile others → HasSameBytes (tree entries) (tree others) → ListsSame entries others

-- ---- the way back from the blobs

-- no two different Directories of the tree have one digest
abbrev pub HasOwnDigests : Tree → Type 0
HasOwnDigests t = (x y : List ℕ) → Contains (all_bytes t) x → Contains (all_bytes t) y → digest_of x ≡ digest_of y → x ≡ y

-- each file and each Directory is smaller than 2^63 bytes
pub record HasSmallSizes (entries : List Entry) : Type 0 where
  pub files : (path : List ℕ) (content : Content) → ListsFile entries path content → content.digest.size < 2 ^ 63
  pub directories : (bytes : List ℕ) → Contains (all_bytes (tree entries)) bytes → length bytes < 2 ^ 63

-- what is listed of a file
abbrev pub listed_file : List ℕ → Content → TreeFile
listed_file path content = record { path = path; digest = content.digest; executable = content.executable }

-- just the files and the directories without entries, each once, in the order of the paths' bytes
pub record IsListOf (entries : List Entry) (listed : Listed) : Type 0 where
  pub files : (path : List ℕ) (content : Content) → ListsFile entries path content ↔ Contains listed.files (listed_file path content)
  pub files_ordered : IsStrictlySortedBy by_path listed.files
  pub dirs : (path : List ℕ) → ListsDir entries path ↔ Contains listed.dirs path
  pub dirs_ordered : IsStrictlySortedBy by_bytes listed.dirs

-- The answer is the list, or there are more directories than a walk may enter, or memory is wanting.
abbrev pub GivesBack : List Entry → Result Listed TreeFault → Type 0
GivesBack entries (Ok listed) = (length (all_bytes (tree entries)) ≤ most_files) × IsListOf entries listed
GivesBack entries (Err TooManyFiles) = most_files < length (all_bytes (tree entries))
GivesBack entries (Err (DuplicatePath path)) = ⊥
GivesBack entries (Err (FileUnderFile file path)) = ⊥
GivesBack entries (Err (MissingBlob digest)) = ⊥
GivesBack entries (Err (NotCanonical digest)) = ⊥
GivesBack entries (Err NoMemory) = Unit {0}

-- Whatever is listed of these blobs is the list again.
abbrev pub IsGivenBack : List Entry → Digest → List Blob → Type 0
IsGivenBack entries root blobs =
    HasNoRootFile entries → HasOwnDigests (tree entries) → HasSmallSizes entries → (answer : Result Listed TreeFault) → ListsTree root blobs answer → GivesBack entries answer
