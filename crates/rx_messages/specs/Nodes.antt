-- The entries of a Directory (remote_execution.proto, FileNode, DirectoryNode, SymlinkNode).
use Rattle.std.specs.Prelude.{ℕ, ◌==◌, List, ◌++◌, Result, Ok, IfSome, if◌then◌else◌}
use Rattle.rx_base.specs.Results.{◌>>=◌}
use Rattle.rx_wire.specs.Values.{Field}
use Rattle.rx_codec.specs.Contents.{one_in, one_put, text_in, text_put, truth_in, truth_put}
use Rattle.rx_codec.specs.FieldBytes.{contents, numbered}
use Rattle.rx_codec.specs.Parts.{Part, anything, message, text}
use Rattle.rx_codec.specs.declared.faults.MessageFault.{MessageFault}
use Rattle.rx_codec.specs.Digests.{digest_fields, digest_from, digest_is_readable, digest_parts}
use Rattle.rx_messages.specs.declared.nodes.FileNode.{FileNode}
use Rattle.rx_messages.specs.declared.nodes.DirectoryNode.{DirectoryNode}
use Rattle.rx_messages.specs.declared.nodes.SymlinkNode.{SymlinkNode}

-- ---- FileNode: name 1, digest 2, is_executable 4

abbrev pub file_node_parts : ℕ → Part
file_node_parts number = if number == 1 then text else if number == 2 then message digest_parts else anything

unfoldable pub file_node_fields : FileNode → List Field
file_node_fields x =
    numbered 1 (text_put x.name)
    ++ numbered 2 (one_put digest_fields x.digest)
    ++ numbered 4 (truth_put x.is_executable)

unfoldable pub file_node_from : List Field → Result FileNode MessageFault
file_node_from fields = do
  digest ← one_in digest_from (contents 2 fields)
  Ok (record { name = text_in (contents 1 fields); digest = digest; is_executable = truth_in (contents 4 fields) })

-- each size is below 2^63
abbrev pub file_node_is_readable : FileNode → Type 0
file_node_is_readable x = IfSome x.digest digest_is_readable

-- ---- DirectoryNode: name 1, digest 2

abbrev pub directory_node_parts : ℕ → Part
directory_node_parts number = if number == 1 then text else if number == 2 then message digest_parts else anything

unfoldable pub directory_node_fields : DirectoryNode → List Field
directory_node_fields x = numbered 1 (text_put x.name) ++ numbered 2 (one_put digest_fields x.digest)

unfoldable pub directory_node_from : List Field → Result DirectoryNode MessageFault
directory_node_from fields = do
  digest ← one_in digest_from (contents 2 fields)
  Ok (record { name = text_in (contents 1 fields); digest = digest })

-- each size is below 2^63
abbrev pub directory_node_is_readable : DirectoryNode → Type 0
directory_node_is_readable x = IfSome x.digest digest_is_readable

-- ---- SymlinkNode: name 1, target 2

abbrev pub symlink_node_parts : ℕ → Part
symlink_node_parts number = if number == 1 then text else if number == 2 then text else anything

unfoldable pub symlink_node_fields : SymlinkNode → List Field
symlink_node_fields x = numbered 1 (text_put x.name) ++ numbered 2 (text_put x.target)

unfoldable pub symlink_node_from : List Field → Result SymlinkNode MessageFault
symlink_node_from fields = Ok (record { name = text_in (contents 1 fields); target = text_in (contents 2 fields) })

abbrev pub symlink_node_is_readable : SymlinkNode → Type 0
symlink_node_is_readable x = Unit {0}
