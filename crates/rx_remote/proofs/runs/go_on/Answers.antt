use Rattle.std.proofs.Common.{◌≡◌, Ok, ap, subst, sym}
use Rattle.rx_action.specs.ActionKeys.{action_of}
use Rattle.rx_action.specs.declared.action_keys.ActionKey.{ActionKey}
use Rattle.rx_blobs.specs.Uploads.{digests_of_blobs}
use Rattle.rx_exec_messages.specs.Dialects.{dialect_of}
use Rattle.rx_world.specs.declared.versions.Dialect.{Dialect}
use Rattle.rx_remote.specs.Actions.{AreOnceEach, all_blobs}
use Rattle.rx_remote.specs.Runs.{task_of, work_of}
use Rattle.rx_remote.proofs.ReadLemmas.{read-none}
use Rattle.rx_remote.proofs.RunEnds.{told-own, told-under, under-or}
use Rattle.rx_remote.proofs.StoreLemmas.{key-is, ready-made, ready-members, ready-within}
use Rattle.rx_remote.proofs.runs.go_on.Goals as goal

pub run_on-requires-clause-begun : goal.run_on-requires-clause-begun
run_on-requires-clause-begun g c =
    let told = c.args.begun.told in
    let task = task_of (work_of c.args.job.now) in
    record {
      dialect = dialect_of told.low told.high;
      task = task;
      old = c.requires.told.old;
      sorted = c.requires.sorted;
      under = told-under g.W.World g.C.Caller c.in-Ok.key.digest (digests_of_blobs c.deref.result.now) task c.requires.told.old c.args.caller.now told c.args.begun.going
          c.requires.told.has;
    }

pub run_on-requires-clause-ready : goal.run_on-requires-clause-ready
run_on-requires-clause-ready g c =
    let work = work_of c.args.job.now in
    let told = c.args.begun.told in
    let dialect = dialect_of told.low told.high in
    let keyed = key-is work.command work.root dialect c.in-Ok.key
    (subst (λ (d : Dialect). action_of work.command work.root d ≡ Ok c.in-Ok.key) c.dialect.ensures c.in-Ok.ensures.key) in
    let once = subst (AreOnceEach (all_blobs c.in-Ok.key work)) (sym c.deref.ensures.value) c.in-Ok-blobs_of.ensures in
    record {
      made = ready-made work dialect c.in-Ok.key c.deref.result.now keyed c.requires.named once;
      within = ready-within c.in-Ok.key work c.deref.result.now once;
    }

pub returns-clause-run : goal.returns-clause-run
returns-clause-run g c old h =
    let work = work_of c.args.job.now in
    let told = c.args.begun.told in
    let dialect = dialect_of told.low told.high in
    let keyed = key-is work.command work.root dialect c.in-Ok.key
    (subst (λ (d : Dialect). action_of work.command work.root d ≡ Ok c.in-Ok.key) c.dialect.ensures c.in-Ok.ensures.key) in
    let stored = digests_of_blobs c.deref.result.now in
    let once = subst (AreOnceEach (all_blobs c.in-Ok.key work)) (sym c.deref.ensures.value) c.in-Ok-blobs_of.ensures in
    under-or g.W.World g.C.Caller work old c.run_on.new.caller dialect c.in-Ok.key.digest stored c.run_on.result (ap (λ (k : ActionKey). k.digest) keyed)
    (ready-members work dialect c.in-Ok.key c.deref.result.now keyed once) once.once
    (told-own g.W.World g.C.Caller (task_of work) old c.args.caller.now told c.args.begun.going h)
    (c.run_on.ensures.ended dialect (task_of work) old
    (told-under g.W.World g.C.Caller c.in-Ok.key.digest stored (task_of work) old c.args.caller.now told c.args.begun.going h))

pub returns-in_default-clause-own : goal.returns-in_default-clause-own
returns-in_default-clause-own g c = read-none g.W.World g.S.Sources c.args.job.now.files.now c.args.sources.now (λ answers. Unit {0}) tt

pub returns-in_default-blobs_of-clause-own : goal.returns-in_default-blobs_of-clause-own
returns-in_default-blobs_of-clause-own g c = read-none g.W.World g.S.Sources c.args.job.now.files.now c.args.sources.now (λ answers. Unit {0}) tt
