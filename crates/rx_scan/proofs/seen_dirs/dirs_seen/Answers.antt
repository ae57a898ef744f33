use Rattle.std.proofs.Common.{[], ◌∷◌, ◌++◌, true, false, ap, append-nil, sym, ◌∙◌}
use Rattle.rx_scan.specs.SeenDirs.{is_dir_seen}
use Rattle.rx_reach.specs.Sights.{seen_at}
use Rattle.rx_scan.proofs.PathSteps.{filter-more}
use Rattle.rx_scan.proofs.seen_dirs.dirs_seen.Goals as goal
use Rattle.rx_scan.proofs.seen_dirs.dirs_seen.Goals.{then-is_dir_at+in_ok-try_clone+in_ok-push, else-is_dir_at}

pub loop-path-preserved : goal.loop-path-preserved
loop-path-preserved c =
    elim c.if-is_dir_at.branch [
      | then-is_dir_at+in_ok-try_clone+in_ok-push w ↦
          filter-more (λ path. is_dir_seen (seen_at c.args.sights.now path)) c.args.paths.now c.loop-path.path-index c.path-item.result true c.loop-path.dirs c.if-is_dir_at.dirs c.loop-path-test.true c.path-item.is
          (sym c.is_dir_at.ensures ∙ w.if-is_dir_at.true) c.loop-path.invariant (w.dirs-is ∙ w.in_ok-push.ensures.ok ∙ ap (λ p. c.loop-path.dirs ++ p ∷ []) w.in_ok-try_clone.ensures)
      | else-is_dir_at w ↦
          filter-more (λ path. is_dir_seen (seen_at c.args.sights.now path)) c.args.paths.now c.loop-path.path-index c.path-item.result false c.loop-path.dirs c.if-is_dir_at.dirs c.loop-path-test.true c.path-item.is
          (sym c.is_dir_at.ensures ∙ w.if-is_dir_at.false) c.loop-path.invariant (w.dirs-is ∙ sym (append-nil c.loop-path.dirs))
    ]
