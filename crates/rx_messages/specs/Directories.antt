-- What is directly in a directory, and the one form in which it is written (remote_execution.proto, Directory).
use Rattle.std.specs.Prelude.{◌≡◌, ℕ, ◌==◌, Bool, true, false, not, List, ◌++◌, map, Result, Ok, is_some, if◌then◌else◌}
use Rattle.rx_base.specs.Results.{◌>>=◌}
use Rattle.rx_wire.specs.Values.{Field}
use Rattle.rx_codec.specs.Contents.{each_in, each_put}
use Rattle.rx_codec.specs.FieldBytes.{contents, fields_bytes, numbered}
use Rattle.rx_messages.specs.Nodes.{directory_node_fields, directory_node_from, directory_node_is_readable, directory_node_parts, file_node_fields, file_node_from, file_node_is_readable, file_node_parts, symlink_node_fields, symlink_node_from, symlink_node_parts}
use Rattle.rx_codec.specs.Parts.{Part, anything, message}
use Rattle.rx_codec.specs.declared.faults.MessageFault.{MessageFault}
use Rattle.std.specs.List.{AllByRecursion}
use Rattle.std.specs.Str.{bytes_eq}
use Rattle.rx_messages.specs.Names.{are_distinct, entries_hold}
use Rattle.rx_messages.specs.declared.nodes.FileNode.{FileNode}
use Rattle.rx_messages.specs.declared.nodes.DirectoryNode.{DirectoryNode}
use Rattle.rx_messages.specs.declared.nodes.SymlinkNode.{SymlinkNode}
use Rattle.rx_messages.specs.declared.directories.Directory.{Directory}

-- ---- Directory: files 1, directories 2, symlinks 3

abbrev pub directory_parts : ℕ → Part
directory_parts number =
    if number == 1 then message file_node_parts
    else if number == 2 then message directory_node_parts
    else if number == 3 then message symlink_node_parts
    else anything

unfoldable pub directory_fields : Directory → List Field
directory_fields directory =
    numbered 1 (each_put file_node_fields directory.files) ++ numbered 2 (each_put directory_node_fields directory.directories)
    ++ numbered 3 (each_put symlink_node_fields directory.symlinks)

unfoldable pub directory_from : List Field → Result Directory MessageFault
directory_from fields = do
  files ← each_in file_node_from (contents 1 fields)
  directories ← each_in directory_node_from (contents 2 fields)
  symlinks ← each_in symlink_node_from (contents 3 fields)
  Ok (record { files = files; directories = directories; symlinks = symlinks })

-- the bytes of a Directory
abbrev pub directory_bytes : Directory → List ℕ
directory_bytes directory = fields_bytes (directory_fields directory)

-- ---- its one form

abbrev pub file_names : Directory → List (List ℕ)
file_names directory = map (λ (node : FileNode). node.name) directory.files

abbrev pub directory_names : Directory → List (List ℕ)
directory_names directory = map (λ (node : DirectoryNode). node.name) directory.directories

abbrev pub symlink_names : Directory → List (List ℕ)
symlink_names directory = map (λ (node : SymlinkNode). node.name) directory.symlinks

-- all names in a Directory
abbrev pub entry_names : Directory → List (List ℕ)
entry_names directory = file_names directory ++ directory_names directory ++ symlink_names directory

-- Each list is sorted by the bytes of the names, each name is a name of a path, and each file and directory has its digest.
unfoldable pub lists_hold : Directory → Bool
lists_hold directory =
    if not (entries_hold (λ (node : FileNode). node.name) (λ (node : FileNode). is_some node.digest) directory.files) then false
    else if not (entries_hold (λ (node : DirectoryNode). node.name) (λ (node : DirectoryNode). is_some node.digest) directory.directories) then false
    else entries_hold (λ (node : SymlinkNode). node.name) (λ (node : SymlinkNode). true) directory.symlinks

-- besides, no name is in it twice
unfoldable pub is_canonical : Directory → Bool
is_canonical directory = if not (lists_hold directory) then false else are_distinct (entry_names directory)

-- the bytes are those that are written for a Directory in canonical form
unfoldable pub directory_has_one_form : List ℕ → Directory → Bool
directory_has_one_form bytes directory = if not (is_canonical directory) then false else bytes_eq bytes (directory_bytes directory)

-- what is read again as it was written: it is canonical, and each size is below 2^63
abbrev pub directory_is_readable : Directory → Type 0
directory_is_readable directory = (is_canonical directory ≡ true) × AllByRecursion file_node_is_readable directory.files × AllByRecursion directory_node_is_readable directory.directories
