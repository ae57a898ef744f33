use Rattle.std.proofs.Common.{subst}
use Rattle.rx_remote.specs.declared.tasks.Task.{Task}
use Rattle.rx_remote.specs.Runs.{EndsEarlyOr, HasTold, work_of}
use Rattle.rx_remote.proofs.LoopLemmas.{any-then, own-unread}
use Rattle.rx_remote.proofs.ReadLemmas.{read-none, unchanged-end}
use Rattle.rx_remote.proofs.RunEnds.{early-or}
use Rattle.rx_remote.proofs.StopTold.{ends-since}
use Rattle.rx_remote.proofs.runs.run_remote.Goals as goal

pub returns-in_default-clause-own : goal.returns-in_default-clause-own
returns-in_default-clause-own g c = read-none g.W.World g.S.Sources c.args.job.now.files.now c.args.sources.now (λ answers. Unit {0}) tt

pub go_on-requires-clause-told : goal.go_on-requires-clause-told
go_on-requires-clause-told g c = record {
  old = c.args.caller.now;
  has = subst (λ (t : Task). HasTold g.W.World g.C.Caller t c.args.caller.now c.begin.new.caller c.in-Ok-begin.begun.told c.in-Ok-begin.begun.going) c.in-Ok.ensures
      c.in-Ok-begin.ensures.told;
}

pub returns-in-Err-clause-ended : goal.returns-in-Err-clause-ended
returns-in-Err-clause-ended g c =
    (early-or g.W.World g.C.Caller (work_of c.args.job.now) c.args.caller.now c.begin.new.caller c.in-Err.end
    (subst (λ (t : Task). EndsEarlyOr g.W.World g.C.Caller t c.args.caller.now c.begin.new.caller c.in-Err.end) c.in-Ok.ensures c.in-Err.ensures.ended)).ended

pub returns-in-Err-clause-right : goal.returns-in-Err-clause-right
returns-in-Err-clause-right g c =
    (early-or g.W.World g.C.Caller (work_of c.args.job.now) c.args.caller.now c.begin.new.caller c.in-Err.end
    (subst (λ (t : Task). EndsEarlyOr g.W.World g.C.Caller t c.args.caller.now c.begin.new.caller c.in-Err.end) c.in-Ok.ensures c.in-Err.ensures.ended)).right

pub returns-in-Err-clause-sound : goal.returns-in-Err-clause-sound
returns-in-Err-clause-sound g c =
    (early-or g.W.World g.C.Caller (work_of c.args.job.now) c.args.caller.now c.begin.new.caller c.in-Err.end
    (subst (λ (t : Task). EndsEarlyOr g.W.World g.C.Caller t c.args.caller.now c.begin.new.caller c.in-Err.end) c.in-Ok.ensures c.in-Err.ensures.ended)).sound

pub returns-in-Err-clause-listed : goal.returns-in-Err-clause-listed
returns-in-Err-clause-listed g c =
    (early-or g.W.World g.C.Caller (work_of c.args.job.now) c.args.caller.now c.begin.new.caller c.in-Err.end
    (subst (λ (t : Task). EndsEarlyOr g.W.World g.C.Caller t c.args.caller.now c.begin.new.caller c.in-Err.end) c.in-Ok.ensures c.in-Err.ensures.ended)).listed

pub returns-in-Err-clause-own : goal.returns-in-Err-clause-own
returns-in-Err-clause-own g c =
    own-unread g.W.World g.S.Sources c.args.job.now.files.now c.args.sources.now (g.T.Stop.told c.begin.new.stop) c.in-Err.end c.in-Err.ensures.own

pub returns-in-Err-clause-unchanged : goal.returns-in-Err-clause-unchanged
returns-in-Err-clause-unchanged g c =
    unchanged-end g.W.World g.S.Sources c.args.job.now.files.now c.args.sources.now c.args.sources.now (g.T.Stop.told c.begin.new.stop) c.in-Err.end
    (own-unread g.W.World g.S.Sources c.args.job.now.files.now c.args.sources.now (g.T.Stop.told c.begin.new.stop) c.in-Err.end c.in-Err.ensures.own)

pub returns-in-Ok-begin-clause-sound : goal.returns-in-Ok-begin-clause-sound
returns-in-Ok-begin-clause-sound g c =
    (c.go_on.ensures.run c.args.caller.now
    (subst (λ (t : Task). HasTold g.W.World g.C.Caller t c.args.caller.now c.begin.new.caller c.in-Ok-begin.begun.told c.in-Ok-begin.begun.going) c.in-Ok.ensures
    c.in-Ok-begin.ensures.told)).sound

pub returns-in-Ok-begin-clause-listed : goal.returns-in-Ok-begin-clause-listed
returns-in-Ok-begin-clause-listed g c =
    (c.go_on.ensures.run c.args.caller.now
    (subst (λ (t : Task). HasTold g.W.World g.C.Caller t c.args.caller.now c.begin.new.caller c.in-Ok-begin.begun.told c.in-Ok-begin.begun.going) c.in-Ok.ensures
    c.in-Ok-begin.ensures.told)).listed

pub returns-in-Ok-begin-clause-stays : goal.returns-in-Ok-begin-clause-stays
returns-in-Ok-begin-clause-stays g c =
    any-then g.C.Caller c.args.caller.now c.begin.new.caller c.go_on.new.caller c.in-Ok-begin.ensures.exchanged c.go_on.ensures.exchanged

pub returns-in-Ok-begin-clause-told : goal.returns-in-Ok-begin-clause-told
returns-in-Ok-begin-clause-told g c =
    ends-since (g.T.Stop.told c.args.stop.now) (g.T.Stop.told c.begin.new.stop) (g.T.Stop.told c.go_on.new.stop) c.go_on.result c.in-Ok-begin.ensures.same c.go_on.ensures.stop
