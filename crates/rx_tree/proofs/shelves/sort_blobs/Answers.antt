use Rattle.std.proofs.Common.{List, subst}
use Rattle.std.specs.Borrow.{Bor}
use Rattle.std.specs.List.Sorted.{IsPermutation}
use Rattle.std.proofs.lemmas.List.Sorted.{IsPermutation-map}
use Rattle.rx_tree.specs.declared.blobs.Blob.{Blob}
use Rattle.rx_tree.specs.Shelves.{blobs_of}
use Rattle.rx_tree.proofs.shelves.sort_blobs.Goals as goal

pub returns : goal.returns
returns c = record {
  all = subst (λ (bs : List Blob). IsPermutation bs (blobs_of c.sort.new.self.items)) c.in_ok-sorted.ensures
      (IsPermutation-map (λ (b : Bor Blob). b.now) c.in_ok-sorted.sorted.items c.sort.new.self.items c.in_ok-sort.ensures.permutation);
  ordered = c.in_ok-sort.ensures.sorted;
}
