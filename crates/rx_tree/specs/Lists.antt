-- What a walk over blobs lists.
use Rattle.std.specs.Prelude.{◌≡◌, ◌≢◌, ◌+◌, List, [], Result, Ok, Err}
use Rattle.std.specs.declared.cmp.Ordering.{Ordering}
use Rattle.std.specs.List.Sorted.{IsPermutation, IsSorted}
use Rattle.rx_base.specs.declared.digests.Digest.{Digest}
use Rattle.rx_tree.specs.declared.blobs.Blob.{Blob}
use Rattle.rx_tree.specs.declared.listings.Listed.{Listed}
use Rattle.rx_tree.specs.declared.listings.TreeFile.{TreeFile}
use Rattle.rx_tree.specs.declared.tree_fault.TreeFault.{TreeFault}
use Rattle.rx_tree.specs.declared.tree_fault.TreeFault.TheVariants.{NoMemory}
use Rattle.rx_tree.specs.declared.walks.Seen.{Seen}
use Rattle.rx_tree.specs.Refusals.{by_bytes, most_files}
use Rattle.rx_tree.specs.Walks.{walked}

-- the walk from a root, over as many levels as it may enter
abbrev pub walked_from : Digest → List Blob → Result Seen TreeFault
walked_from root blobs = walked (most_files + 1) blobs root [] (record { entered = 0; files = []; dirs = [] })

abbrev pub by_path : TreeFile → TreeFile → Ordering
by_path x y = by_bytes x.path y.path

-- these are what was seen, in the order of the paths' bytes
pub record IsInOrder (seen : Seen) (listed : Listed) : Type 0 where
  pub files : IsPermutation seen.files listed.files
  pub files_ordered : IsSorted by_path listed.files
  pub dirs : IsPermutation seen.dirs listed.dirs
  pub dirs_ordered : IsSorted by_bytes listed.dirs

-- What a call lists of a root's blobs: what the walk sees, in order, or the refusal that ends the walk.
abbrev pub ListsTree : Digest → List Blob → Result Listed TreeFault → Type 0
ListsTree root blobs (Ok listed) = (seen : Seen) × (walked_from root blobs ≡ Ok seen) × IsInOrder seen listed
ListsTree root blobs (Err fault) = fault ≢ NoMemory → walked_from root blobs ≡ Err fault
