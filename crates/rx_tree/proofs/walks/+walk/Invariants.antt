use Rattle.std.proofs.Common.{◌≡◌, ◌<◌, ◌+◌, ◌-◌, ℕ, suc, drop}
use Rattle.rx_tree.specs.Refusals.{most_files}
use Rattle.rx_tree.specs.Walks.{each, walked}
use Rattle.rx_tree.proofs.walks.+walk.Given as goal

abbrev pub decreases-walk : goal.decreases-walk
decreases-walk l = most_files - l.seen.now.entered

abbrev pub invariant-loop-sub : goal.invariant-loop-sub
invariant-loop-sub l = record {
  room : l.fn.seen.entered < most_files;
  more : l.fn.seen.entered < l.seen.entered;
  goes_on : (most : ℕ) → most_files < suc most + l.fn.seen.entered
      → walked (suc most) l.shelf l.digest l.path l.fn.seen ≡ each (λ sub next. walked most l.shelf sub.digest sub.path next) (drop l.sub-index l.sub-items) l.seen;
}
