-- How far an attempt still may go.
use Rattle.std.specs.Prelude.{ℕ, ◌+◌, ◌-◌, ◌*◌, length}
use Rattle.rx_remote.specs.declared.marks.Marks.{Marks}
use Rattle.rx_remote.specs.declared.phases.Phase.{Phase}
use Rattle.rx_remote.specs.declared.phases.Phase.TheVariants as phases

abbrev pub rank : Phase → ℕ
rank phases.Capabilities = 6
rank phases.GetResult = 5
rank (phases.Upload fresh) = 4
rank phases.Execute = 3
rank phases.Wait = 3
rank phases.NextOperation = 2
rank phases.Fetch = 1
rank phases.Ended = 0

-- each turn of a legal history that isn't the last lowers this
abbrev pub turns_left : Marks → Phase → ℕ
turns_left marks phase = rank phase + (10 * (10000 - marks.waits) + 10 * (4 - length marks.faults))
