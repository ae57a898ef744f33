use Rattle.std.proofs.Common.{arith, ◌++◌, refl, sym, subst}
use Rattle.std.proofs.lemmas.Result.{err_from_is_err_and}
use Rattle.rx_base.specs.SortedPaths.{AreSorted}
use Rattle.rx_base.proofs.PathsSorted.{AreSorted-sorted_paths}
use Rattle.rx_world.specs.declared.commands.Command.{Command}
use Rattle.rx_scan.specs.declared.gathering.Gathered.{Gathered}
use Rattle.rx_scan.specs.Gathering.{Asked, asked_for}
use Rattle.rx_scan.proofs.DigestLemmas.{inputs-seen}
use Rattle.rx_scan.proofs.GatherSteps.{allows-meaning, cause-asked, command-asked, memory-at_once, memory-last, refused-meaning, refused-scan, refused-sight, refused-tree, scanned-asked}
use Rattle.rx_scan.proofs.GatheredSteps.{all-gathered, all-learned, learns-scanned, orderly-so, planned-so, tree-scanned}
use Rattle.rx_scan.proofs.ListedLemmas.{as-listed}
use Rattle.rx_scan.proofs.gathering.gather.Goals as goal

pub returns-in_err-meaning-clause-gathered : goal.returns-in_err-meaning-clause-gathered
returns-in_err-meaning-clause-gathered g c =
    let p = err_from_is_err_and c.from_residual.result c.from_residual.ensures.1 in
    rw (p.1, p.2) (memory-at_once _ _ _ _)

pub returns-in_err-refuse_word-clause-gathered : goal.returns-in_err-refuse_word-clause-gathered
returns-in_err-refuse_word-clause-gathered g c =
    let p = err_from_is_err_and c.from_residual-in_err-refuse_word.result c.from_residual-in_err-refuse_word.ensures.1 in
    let asked : Asked = asked_for c.args.command.now c.args.kind c.args.inputs.now c.args.choice in
    rw (p.1, p.2) (refused-meaning _ _ _ asked c.in_ok-meaning.meaning _ c.in_ok-meaning.ensures.meaning c.in_err-refuse_word.ensures.err)

pub returns-in_err-command-clause-gathered : goal.returns-in_err-command-clause-gathered
returns-in_err-command-clause-gathered g c =
    let p = err_from_is_err_and c.from_residual-in_err-command.result c.from_residual-in_err-command.ensures.1 in
    rw (p.1, p.2) (memory-at_once _ _ _ _)

pub returns-in_err-scanned-clause-gathered : goal.returns-in_err-scanned-clause-gathered
returns-in_err-scanned-clause-gathered g c =
    let p = err_from_is_err_and c.from_residual-in_err-scanned.result c.from_residual-in_err-scanned.ensures.1 in
    let asked : Asked = asked_for c.args.command.now c.args.kind c.args.inputs.now c.args.choice in
    let allows = allows-meaning asked c.in_ok-meaning.meaning c.in_ok-meaning.ensures.meaning c.in_ok-refuse_word.ensures.ok in
    rw (p.1, p.2) (refused-scan _ _ _ _ asked c.in_ok-meaning.meaning _ _ _ allows c.in_ok-meaning.ensures.meaning c.new-sights.ensures c.in_err-scanned.ensures.scanned)

pub returns-in_err-tree-clause-gathered : goal.returns-in_err-tree-clause-gathered
returns-in_err-tree-clause-gathered g c =
    let p = err_from_is_err_and c.from_residual-in_err-tree.result c.from_residual-in_err-tree.ensures.1 in
    let asked : Asked = asked_for c.args.command.now c.args.kind c.args.inputs.now c.args.choice in
    let command = command-asked asked c.in_ok-meaning.meaning _ c.in_ok-command.command c.in_ok-meaning.ensures.meaning c.as_slice.ensures c.in_ok-command.ensures in
    let cause = cause-asked asked c.in_ok-meaning.meaning c.in_ok-scanned.scanned.hard c.cause_of-cause.result c.in_ok-meaning.ensures.meaning (rw c.word_of.ensures at c.cause_of-cause.ensures) in
    let scanned = scanned-asked _ _ _ _ asked c.in_ok-meaning.meaning _ _ c.in_ok-scanned.scanned c.in_ok-meaning.ensures.meaning c.new-sights.ensures c.in_ok-scanned.ensures.scanned in
    let allows = allows-meaning asked c.in_ok-meaning.meaning c.in_ok-meaning.ensures.meaning c.in_ok-refuse_word.ensures.ok in
    rw (p.1, p.2) (refused-tree _ _ _ _ _ asked _ _ c.in_ok-scanned.scanned c.in_ok-command.command c.cause_of-cause.result _ allows command cause c.in_ok-scanned.ensures.known scanned c.in_err-tree.ensures.taken)

pub returns-in_err-files-clause-gathered : goal.returns-in_err-files-clause-gathered
returns-in_err-files-clause-gathered g c =
    let p = err_from_is_err_and c.from_residual-in_err-files.result c.from_residual-in_err-files.ensures.1 in
    let asked : Asked = asked_for c.args.command.now c.args.kind c.args.inputs.now c.args.choice in
    let scanned = scanned-asked _ _ _ _ asked c.in_ok-meaning.meaning _ _ c.in_ok-scanned.scanned c.in_ok-meaning.ensures.meaning c.new-sights.ensures c.in_ok-scanned.ensures.scanned in
    let tree = tree-scanned _ _ _ _ _ asked _ _ c.in_ok-scanned.scanned c.in_ok-command.command c.cause_of-cause.result c.in_ok-tree.tree.files scanned c.in_ok-tree.ensures.taken in
    rw (p.1, p.2) (refused-sight _ _ _ _ _ asked _ _ _ tree c.in_err-files.ensures.err)

pub returns-in_err-view-clause-gathered : goal.returns-in_err-view-clause-gathered
returns-in_err-view-clause-gathered g c =
    let p = err_from_is_err_and c.from_residual-in_err-view.result c.from_residual-in_err-view.ensures.1 in
    let asked : Asked = asked_for c.args.command.now c.args.kind c.args.inputs.now c.args.choice in
    let scanned = scanned-asked _ _ _ _ asked c.in_ok-meaning.meaning _ _ c.in_ok-scanned.scanned c.in_ok-meaning.ensures.meaning c.new-sights.ensures c.in_ok-scanned.ensures.scanned in
    let tree = tree-scanned _ _ _ _ _ asked _ _ c.in_ok-scanned.scanned c.in_ok-command.command c.cause_of-cause.result c.in_ok-tree.tree.files scanned c.in_ok-tree.ensures.taken in
    rw (p.1, p.2) (memory-last _ _ _ _ _ asked _ _ _ _ tree c.in_ok-files.ensures.ok)

pub take_tree-requires-clause-few : goal.take_tree-requires-clause-few
take_tree-requires-clause-few g c = omega (arith, c.in_ok-scanned.ensures.few)

pub take_tree-requires-clause-outputs : goal.take_tree-requires-clause-outputs
take_tree-requires-clause-outputs g c = subst (λ (x : Command). AreSorted x.outputs) (sym c.in_ok-command.ensures) (AreSorted-sorted_paths (c.args.command.now.outputs ++ c.as_slice.result.now))

pub returns-clause-gathered : goal.returns-clause-gathered
returns-clause-gathered g c =
    let asked : Asked = asked_for c.args.command.now c.args.kind c.args.inputs.now c.args.choice in
    let command = command-asked asked c.in_ok-meaning.meaning _ c.in_ok-command.command c.in_ok-meaning.ensures.meaning c.as_slice.ensures c.in_ok-command.ensures in
    let cause = cause-asked asked c.in_ok-meaning.meaning c.in_ok-scanned.scanned.hard c.cause_of-cause.result c.in_ok-meaning.ensures.meaning (rw c.word_of.ensures at c.cause_of-cause.ensures) in
    let scanned = scanned-asked _ _ _ _ asked c.in_ok-meaning.meaning _ _ c.in_ok-scanned.scanned c.in_ok-meaning.ensures.meaning c.new-sights.ensures c.in_ok-scanned.ensures.scanned in
    let tree = tree-scanned _ _ _ _ _ asked _ _ c.in_ok-scanned.scanned c.in_ok-command.command c.cause_of-cause.result c.in_ok-tree.tree.files scanned c.in_ok-tree.ensures.taken in
    let same = rw c.as_slice-2.ensures at c.in_ok-files.ensures.same in
    let files = c.in_ok-files.ensures.ok in
    let gathered : Gathered = record { command = c.in_ok-command.command; view = c.in_ok-view.view; files = c.in_ok-files.files; dirs = c.in_ok-tree.tree.dirs; plan = c.in_ok-tree.tree.plan } in
    all-gathered _ _ _ _ asked _ gathered
    (all-learned _ _ _ _ _ asked _ _ c.in_ok-scanned.scanned c.in_ok-command.command c.cause_of-cause.result c.in_ok-tree.tree.files gathered command cause tree files c.in_ok-tree.ensures.plan c.in_ok-tree.ensures.orderly.dirs same)
    c.in_ok-view.ensures.seen (inputs-seen _ _ files.answers c.in_ok-files.files c.in_ok-tree.tree.files same c.in_ok-tree.ensures.seen files.notes)

pub returns-clause-orderly : goal.returns-clause-orderly
returns-clause-orderly g c =
    let asked : Asked = asked_for c.args.command.now c.args.kind c.args.inputs.now c.args.choice in
    let command = command-asked asked c.in_ok-meaning.meaning _ c.in_ok-command.command c.in_ok-meaning.ensures.meaning c.as_slice.ensures c.in_ok-command.ensures in
    let with = rw c.as_slice.ensures at c.in_ok-command.ensures in
    let cause = cause-asked asked c.in_ok-meaning.meaning c.in_ok-scanned.scanned.hard c.cause_of-cause.result c.in_ok-meaning.ensures.meaning (rw c.word_of.ensures at c.cause_of-cause.ensures) in
    let same = rw c.as_slice-2.ensures at c.in_ok-files.ensures.same in
    orderly-so asked c.args.inputs.now c.in_ok-meaning.meaning.outputs c.in_ok-scanned.scanned.dirs c.in_ok-tree.tree
    (record { command = c.in_ok-command.command; view = c.in_ok-view.view; files = c.in_ok-files.files; dirs = c.in_ok-tree.tree.dirs; plan = c.in_ok-tree.tree.plan })
    command with c.in_ok-meaning.ensures.safe c.in_ok-tree.ensures.orderly refl same c.in_ok-view.ensures.sorted
    (planned-so asked c.in_ok-meaning.meaning c.in_ok-scanned.scanned.hard c.cause_of-cause.result c.in_ok-tree.tree.plan c.in_ok-meaning.ensures.meaning cause c.in_ok-scanned.ensures.unsought c.in_ok-tree.ensures.plan)

pub returns-clause-digests : goal.returns-clause-digests
returns-clause-digests g c = λ honest.
    let known = rw c.as_slice-3.ensures at c.in_ok-files.ensures.digests in
    known honest (c.in_ok-scanned.ensures.digests honest)

pub returns-clause-listed : goal.returns-clause-listed
returns-clause-listed g c = λ honest keeps.
    let asked : Asked = asked_for c.args.command.now c.args.kind c.args.inputs.now c.args.choice in
    let known = rw c.as_slice-3.ensures at c.in_ok-files.ensures.digests in
    let same = rw c.as_slice-2.ensures at c.in_ok-files.ensures.same in
    let scanned = scanned-asked _ _ _ _ asked c.in_ok-meaning.meaning _ _ c.in_ok-scanned.scanned c.in_ok-meaning.ensures.meaning c.new-sights.ensures c.in_ok-scanned.ensures.scanned in
    let tree = tree-scanned _ _ _ _ _ asked _ _ c.in_ok-scanned.scanned c.in_ok-command.command c.cause_of-cause.result c.in_ok-tree.tree.files scanned c.in_ok-tree.ensures.taken in
    let files = c.in_ok-files.ensures.ok in
    let all = learns-scanned _ _ _ _ _ _ _ _ _ _ tree files in
    as-listed _ _ _ _ _ all.answers c.in_ok-files.files all.tells.gives all.notes (inputs-seen _ _ files.answers c.in_ok-files.files c.in_ok-tree.tree.files same c.in_ok-tree.ensures.seen files.notes)
    (λ h. known h (c.in_ok-scanned.ensures.digests h)) honest keeps
