use Rattle.std.proofs.Common.{◌≡◌, sym, ap, subst, ◌∙◌, map}
use Rattle.std.proofs.lemmas.Result.{err_from_is_err_and}
use Rattle.std.proofs.lemmas.List.Elements.{All-nil}
use Rattle.rx_base.specs.Digests.{digest_of}
use Rattle.rx_world.specs.declared.input_files.InputFile.{InputFile}
use Rattle.rx_scan.specs.declared.seen_files.SeenFile.{SeenFile}
use Rattle.rx_scan.specs.Digests.{seen_file}
use Rattle.rx_reach.specs.Explored.{HaveDigests}
use Rattle.rx_scan.proofs.DigestLemmas.{file-seen, honest-more, same-more}
use Rattle.rx_reach.proofs.ScanLemmas.{ends-join, ends-memory, scans-none, scans-on}
use Rattle.rx_scan.proofs.digests.with_digests.Goals as goal

pub loop-file-init : goal.loop-file-init
loop-file-init g c = record {
  scans = scans-none _ _ _ _ _ (λ scene right. tt);
  same = ap (map seen_file) c.new-inputs.ensures;
  honest = λ honest known. subst (HaveDigests g.W.World.content) (sym c.new-inputs.ensures) (All-nil (λ (file : InputFile). file.digest ≡ digest_of (g.W.World.content file.path file.stamp)));
}

pub find_digest-requires : goal.find_digest-requires
find_digest-requires g c =
    file-seen c.args.files.now c.loop-file.file-index c.file-item.result c.args.sights.now c.loop-file.sights _ c.loop-file-test.true c.file-item.is c.requires.seen c.loop-file.invariant.scans.notes

pub returns-in_err-digest-clause-err : goal.returns-in_err-digest-clause-err
returns-in_err-digest-clause-err g c =
    let p = err_from_is_err_and c.from_residual.result c.from_residual.ensures.1 in
    rw (p.1, p.2) (ends-join _ _ _ _ _ _ _ _ _ c.loop-file.invariant.scans c.in_err-digest.ensures.err)

pub returns-in_err-try_clone-clause-err : goal.returns-in_err-try_clone-clause-err
returns-in_err-try_clone-clause-err g c =
    let p = err_from_is_err_and c.from_residual-in_err-try_clone.result c.from_residual-in_err-try_clone.ensures.1 in
    rw (p.1, p.2) (ends-memory _ _ _ _ _ _ _ (scans-on _ _ _ _ _ _ _ _ _ _ c.loop-file.invariant.scans c.in_ok-digest.ensures.ok))

pub returns-in_err-push-clause-err : goal.returns-in_err-push-clause-err
returns-in_err-push-clause-err g c =
    let p = err_from_is_err_and c.from_residual-in_err-push.result c.from_residual-in_err-push.ensures.1 in
    rw (p.1, p.2) (ends-memory _ _ _ _ _ _ _ (scans-on _ _ _ _ _ _ _ _ _ _ c.loop-file.invariant.scans c.in_ok-digest.ensures.ok))

pub loop-file-preserved : goal.loop-file-preserved
loop-file-preserved g c =
    let file = c.file-item.result in
    let copy = c.in_ok-try_clone.field-0 in
    let input : InputFile = record { path = copy; digest = c.in_ok-digest.digest; stamp = file.stamp; executable = file.executable } in
    let is : seen_file input ≡ file = ap (λ p. let seen : SeenFile = record { path = p; stamp = file.stamp; executable = file.executable } in seen) c.in_ok-try_clone.ensures in
    record {
      scans = scans-on _ _ _ _ _ _ _ _ _ _ c.loop-file.invariant.scans c.in_ok-digest.ensures.ok;
      same = same-more c.args.files.now c.loop-file.file-index file c.loop-file.inputs c.push.new.self input c.loop-file-test.true c.file-item.is c.loop-file.invariant.same c.in_ok-push.ensures.ok is;
      honest = λ honest known.
          honest-more g.W.World.content c.loop-file.inputs c.push.new.self input (c.loop-file.invariant.honest honest known)
          (c.in_ok-digest.ensures.honest honest known ∙ ap (λ p. digest_of (g.W.World.content p file.stamp)) (sym c.in_ok-try_clone.ensures)) c.in_ok-push.ensures.ok;
    }
