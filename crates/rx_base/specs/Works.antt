-- Work that was begun, and the promise of its value.
use Rattle.std.specs.Prelude.{◌≡◌}
use Rattle.rx_base.specs.declared.begun.Work.{Work}
use Rattle.rx_base.specs.declared.begun.Work.TheVariants.{Done, InThread}

-- a thread has made this promise, or the value of work that was done keeps it
abbrev pub IsWork : {T P : Type 0} → (P → T → Type 0) → P → Work T P → Type 0
IsWork kept promise (InThread child) = child.promise ≡ promise
IsWork kept promise (Done value) = kept promise value
