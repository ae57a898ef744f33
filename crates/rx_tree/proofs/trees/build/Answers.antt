use Rattle.std.proofs.Common.{◌∙◌, List, map, ap, subst}
use Rattle.rx_base.specs.Digests.{digest_of}
use Rattle.rx_base.specs.SortedPaths.{HasSameMembers}
use Rattle.rx_tree.specs.declared.blobs.Blob.{Blob}
use Rattle.rx_tree.specs.Blobs.{blob_of}
use Rattle.rx_tree.specs.Entries.{entries_of}
use Rattle.rx_tree.specs.Trees.{Tree, all_bytes, tree_bytes}
use Rattle.rx_tree.specs.Planting.{ReadsAgain, ReadsAgainBelow}
use Rattle.rx_tree.proofs.FitLemmas.{only_memory, passed_on}
use Rattle.rx_tree.proofs.BackLaws.{few_files, given_back}
use Rattle.rx_tree.proofs.ListingLaws.{told_by_bytes}
use Rattle.rx_tree.proofs.StartLemmas.{ready_sorted, tree_sorted}
use Rattle.rx_tree.proofs.WorldRoots.{world_tree}
use Rattle.rx_tree.proofs.trees.build.Goals as goal

pub add_directories-requires : goal.add_directories-requires
add_directories-requires c =
    rw c.deref.ensures.value (ready_sorted (entries_of c.args.files.now c.args.dirs.now) c.in_ok-entries.entries.items c.in_ok-entries.ensures.all c.in_ok-entries.ensures.sorted c.in_ok-entries.ensures.judged.1)

pub returns-in_err-entries-clause-fit : goal.returns-in_err-entries-clause-fit
returns-in_err-entries-clause-fit c = λ fit.
    passed_on c.from_residual.result c.in_err-entries.field-0.0 c.from_residual.ensures.1 (only_memory (Unit {0}) c.args.files.now c.args.dirs.now c.in_err-entries.field-0.0 fit c.in_err-entries.ensures.judged)

pub returns-clause-root : goal.returns-clause-root
returns-clause-root c =
    let same = tree_sorted (entries_of c.args.files.now c.args.dirs.now) c.in_ok-entries.entries.items c.in_ok-entries.ensures.all c.in_ok-entries.ensures.sorted c.in_ok-entries.ensures.judged.1 in
    rw c.deref.ensures.value at c.in_ok-root.ensures.root ∙ ap (λ (t : Tree). digest_of (tree_bytes t)) same

pub returns-clause-world : goal.returns-clause-world
returns-clause-world c =
    let files = c.args.files.now in
    let dirs = c.args.dirs.now in
    let apart = c.in_ok-entries.ensures.judged.1 in
    let same = tree_sorted (entries_of files dirs) c.in_ok-entries.entries.items c.in_ok-entries.ensures.all c.in_ok-entries.ensures.sorted apart in
    λ copy copies. rw c.deref.ensures.value at c.in_ok-root.ensures.root ∙ ap (λ (t : Tree). digest_of (tree_bytes t)) (same ∙ world_tree files dirs copy copies c.in_ok-entries.ensures.sound apart)

pub returns-clause-blobs : goal.returns-clause-blobs
returns-clause-blobs c =
    let same = tree_sorted (entries_of c.args.files.now c.args.dirs.now) c.in_ok-entries.entries.items c.in_ok-entries.ensures.all c.in_ok-entries.ensures.sorted c.in_ok-entries.ensures.judged.1 in
    let pushed = rw (c.deref.ensures.value, c.new-blobs.ensures.items) at c.in_ok-root.ensures.blobs in
    subst (λ (bs : List Blob). HasSameMembers bs c.in_ok-blobs.blobs) (pushed ∙ ap (λ (t : Tree). map blob_of (all_bytes t)) same) c.in_ok-blobs.ensures.members

pub returns-clause-told : goal.returns-clause-told
returns-clause-told c =
    told_by_bytes (entries_of c.args.files.now c.args.dirs.now) (record { each = c.in_ok-entries.ensures.sound; apart = c.in_ok-entries.ensures.judged.1 })

pub returns-clause-back : goal.returns-clause-back
returns-clause-back c =
    let entries = entries_of c.args.files.now c.args.dirs.now in
    let same = tree_sorted entries c.in_ok-entries.entries.items c.in_ok-entries.ensures.all c.in_ok-entries.ensures.sorted c.in_ok-entries.ensures.judged.1 in
    let pushed = rw (c.deref.ensures.value, c.new-blobs.ensures.items) at c.in_ok-root.ensures.blobs in
    let members = subst (λ (bs : List Blob). HasSameMembers bs c.in_ok-blobs.blobs) (pushed ∙ ap (λ (t : Tree). map blob_of (all_bytes t)) same) c.in_ok-blobs.ensures.members in
    let again = subst (λ (t : Tree). ReadsAgain t × ReadsAgainBelow t) same (rw c.deref.ensures.value at c.in_ok-root.ensures.again) in
    given_back entries (record { each = c.in_ok-entries.ensures.sound; apart = c.in_ok-entries.ensures.judged.1 }) c.in_ok-root.root c.in_ok-blobs.blobs
    (rw c.deref.ensures.value at c.in_ok-root.ensures.root ∙ ap (λ (t : Tree). digest_of (tree_bytes t)) same) members again (few_files c.args.files.now c.args.dirs.now c.in_ok-entries.ensures.judged.0)
