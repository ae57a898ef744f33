use Rattle.std.proofs.Common.{refl, ◌∙◌}
use Rattle.rx_engine.proofs.PendingLemmas.{pending-end, pending-refusal, pending-request, pending-starved}
use Rattle.rx_engine.proofs.pending.undertake.Goals as goal

pub returns-then-is_err : goal.returns-then-is_err
returns-then-is_err g c =
    let read = c.read_asked.ensures in
    let found = c.in-Ok-Request in
    let same = c.reserve.ensures.items in
    pending-starved _ _ _ _ _ _ _ _ _ c.args.root.now c.args.parts c.read_asked.new.source c.reserve.new.self.items c.in-Ok-Request.request c.starved.result
    (rw same read.read) (rw same (rw (found.is, found.field-0-is) at read.incoming)) (rw (found.is, found.field-0-is) at read.end) (rw same (rw found.is at read.bare)) read.later c.starved.ensures

pub returns-else-is_err : goal.returns-else-is_err
returns-else-is_err g c =
    let read = c.read_asked.ensures in
    let made = c.answer-stage.ensures in
    let found = c.in-Ok-Request in
    let grown = rw c.unwrap.ensures at c.extend_from_slice.ensures.items in
    let whole = rw (c.heard_in.ensures, c.reserve.ensures.items) at grown in
    pending-request _ _ _ _ _ _ _ _ _ c.args.root.now c.args.parts c.answer-stage.result.1 c.read_asked.new.source c.read_asked.new.read.items c.from_vec.result
    c.in-Ok-Request.request c.answer-stage.result.0
    (c.from_vec.ensures ∙ whole) made.heard made.output read.read (rw (found.is, found.field-0-is) at read.incoming) (rw (found.is, found.field-0-is) at read.end)
    (rw found.is at read.bare) read.later made.answered made.later

pub returns-in-Ok-Shutdown : goal.returns-in-Ok-Shutdown
returns-in-Ok-Shutdown g c =
    let read = c.read_asked.ensures in
    let found = c.in-Ok-Shutdown in
    rw c.unasked.ensures
    (pending-end _ _ _ _ _ _ _ _ _ c.args.root.now c.args.parts c.read_asked.new.source c.read_asked.new.read.items c.end_of_run.result
    read.read (rw (found.is, found.field-0-is) at read.incoming) read.reach read.later c.end_of_run.ensures)

pub returns-in-Err : goal.returns-in-Err
returns-in-Err g c =
    let read = c.read_asked.ensures in
    rw c.unasked-in-Err.ensures
    (pending-refusal _ _ _ _ _ _ _ _ _ c.args.root.now c.args.parts c.read_asked.new.source c.read_asked.new.read.items c.in-Err.fault c.refusal.result
    read.read (rw c.in-Err.is at read.incoming) read.reach (rw c.in-Err.is at read.end) read.later
    (λ e. read.failed (rw (c.in-Err.is, e) refl)) c.refusal.ensures)
