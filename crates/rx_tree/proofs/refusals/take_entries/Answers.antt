use Rattle.std.proofs.Common.{List, ℕ, None, Some, arith, subst, sym}
use Rattle.rx_tree.proofs.RefusalLemmas.{apart, least_clash, least_twice, some_below}
use Rattle.rx_tree.specs.Refusals.{IsLeast, by_bytes, IsTwice}
use Rattle.rx_tree.specs.Entries.{entries_of}
use Rattle.rx_tree.proofs.refusals.take_entries.Goals.{in-Some-least_conflict+in_default-least_below, in_default-least_conflict}
use Rattle.rx_tree.proofs.refusals.take_entries.Goals as goal

pub returns-in-Some-clause-judged : goal.returns-in-Some-clause-judged
returns-in-Some-clause-judged c =
    let entries = entries_of c.args.files.now c.args.dirs.now in
    let same = c.in_ok-entries.ensures.all in
    let up = c.in_ok-entries.ensures.sorted in
    let found = least_twice entries c.in_ok-entries.entries.items same up (Some c.in-Some.path.now) (rw c.deref.ensures.value at c.in-Some.ensures) in
    (omega arith, subst (λ (path : List ℕ). IsLeast by_bytes (IsTwice entries) path) (sym c.in_ok-try_clone.ensures) found)

pub returns-in-Some-least_below-clause-judged : goal.returns-in-Some-least_below-clause-judged
returns-in-Some-least_below-clause-judged c =
    let entries = entries_of c.args.files.now c.args.dirs.now in
    let same = c.in_ok-entries.ensures.all in
    let up = c.in_ok-entries.ensures.sorted in
    let once = least_twice entries c.in_ok-entries.entries.items same up None (rw c.deref.ensures.value at c.in_default.ensures) in
    let file = rw c.deref-2.ensures.value at c.in-Some-least_conflict.ensures in
    let below = rw c.deref-in-Some-least_conflict.ensures.value at c.in-Some-least_below.ensures in
    let found = least_clash entries c.in_ok-entries.entries.items same up once c.in-Some-least_conflict.file.now c.in-Some-least_below.below.now file below in
    (omega arith, once, rw (c.in_ok-try_clone-2.ensures, c.in_ok-try_clone-3.ensures) found)

pub returns-clause-judged : goal.returns-clause-judged
returns-clause-judged c =
    let entries = entries_of c.args.files.now c.args.dirs.now in
    let same = c.in_ok-entries.ensures.all in
    let up = c.in_ok-entries.ensures.sorted in
    let once = least_twice entries c.in_ok-entries.entries.items same up None (rw c.deref.ensures.value at c.in_default.ensures) in (
      omega arith,
      elim c.match-least_conflict-2.branch [
        | in-Some-least_conflict+in_default-least_below w ↦
            absurd (some_below entries c.in_ok-entries.entries.items same up once w.in-Some-least_conflict.file.now (rw c.deref-2.ensures.value at w.in-Some-least_conflict.ensures)
            (rw w.deref-in-Some-least_conflict.ensures.value at w.in_default-least_below.ensures))
        | in_default-least_conflict w ↦ apart entries c.in_ok-entries.entries.items same up once (rw c.deref-2.ensures.value at w.in_default-least_conflict.ensures)
      ],
    )
