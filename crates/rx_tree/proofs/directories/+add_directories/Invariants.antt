use Rattle.std.proofs.Common.{◌-◌, ◌≤◌, drop, length}
use Rattle.rx_tree.specs.Trees.{levels, rests}
use Rattle.rx_tree.proofs.PlantingLemmas.{IsPlanted}
use Rattle.rx_tree.proofs.directories.+add_directories.Given as goal

abbrev pub decreases-add_directories : goal.decreases-add_directories
decreases-add_directories l = levels (rests l.depth l.entries.now)

abbrev pub decreases-loop-at : goal.decreases-loop-at
decreases-loop-at l = length l.entries - l.at

abbrev pub invariant-loop-at : goal.invariant-loop-at
invariant-loop-at l =
    record { within : l.at ≤ length l.entries; planted : IsPlanted (rests l.depth l.entries) (rests l.depth (drop l.at l.entries)) l.files.items l.directories.items l.fn.blobs.items l.blobs.items }
