-- A directory with all below it (remote_execution.proto, Tree).
use Rattle.std.specs.Prelude.{ℕ, ◌==◌, Bool, true, false, not, List, [], ◌∷◌, ◌++◌, Option, None, Some, Result, Ok, IfSome, if◌then◌else◌}
use Rattle.std.specs.List.{AllByRecursion, concat}
use Rattle.rx_base.specs.Results.{◌>>=◌}
use Rattle.rx_wire.specs.Values.{Field}
use Rattle.rx_codec.specs.Contents.{chunks, each_in, each_put, one_in, one_put}
use Rattle.rx_messages.specs.Directories.{directory_fields, directory_from, directory_has_one_form, directory_is_readable, directory_parts}
use Rattle.rx_codec.specs.FieldBytes.{contents, fields_in, numbered}
use Rattle.rx_codec.specs.Parts.{Part, anything, message}
use Rattle.rx_codec.specs.declared.faults.MessageFault.{MessageFault}
use Rattle.rx_messages.specs.declared.directories.Directory.{Directory}
use Rattle.rx_messages.specs.declared.trees.Tree.{Tree}

-- ---- Tree: root 1, children 2

abbrev pub tree_parts : ℕ → Part
tree_parts number = if number == 1 then message directory_parts else if number == 2 then message directory_parts else anything

unfoldable pub tree_fields : Tree → List Field
tree_fields x = numbered 1 (one_put directory_fields x.root) ++ numbered 2 (each_put directory_fields x.children)

unfoldable pub tree_from : List Field → Result Tree MessageFault
tree_from fields = do
  root ← one_in directory_from (contents 1 fields)
  children ← each_in directory_from (contents 2 fields)
  Ok (record { root = root; children = children })

-- each Directory is canonical, and each size is below 2^63
abbrev pub tree_is_readable : Tree → Type 0
tree_is_readable x = IfSome x.root directory_is_readable × AllByRecursion directory_is_readable x.children

-- ---- each Directory in its one form

-- a Directory of these pieces
unfoldable pub root_has_one_form : List (List ℕ) → Option Directory → Bool
root_has_one_form pieces None = true
root_has_one_form pieces (Some directory) = directory_has_one_form (concat pieces) directory

-- each Directory of its piece
unfoldable pub each_has_one_form : List (List ℕ) → List Directory → Bool
each_has_one_form [] directories = true
each_has_one_form (piece ∷ pieces) [] = true
each_has_one_form (piece ∷ pieces) (directory ∷ directories) =
    if not (directory_has_one_form piece directory) then false else each_has_one_form pieces directories

unfoldable pub tree_has_one_form : List ℕ → Tree → Bool
tree_has_one_form bytes x =
    if not (root_has_one_form (chunks (contents 1 (fields_in bytes))) x.root) then false
    else each_has_one_form (chunks (contents 2 (fields_in bytes))) x.children
