-- The ends of a session as they are listed and told: where none is of want of memory, no attempt's is.
use Rattle.std.proofs.Common.{◌≡◌, List, [], ◌∷◌, ◌++◌, Option, None, Some}
use Rattle.std.proofs.lemmas.List.Elements.{All-contains, Contains-append_left, Contains-append_right}
use Rattle.rx_base.proofs.Members.{Contains-head}
use Rattle.rx_core.proofs.Cases.{none-some}
use Rattle.rx_engine.specs.Attempts.{AreTellable, IsTellable, in_order, kept_of, listed_local, listed_remote}
use Rattle.rx_world.specs.declared.attempts.Attempt.{Attempt}
use Rattle.rx_world.specs.declared.attempts.Attempt.TheVariants.{Local, Remote}
use Rattle.rx_world.specs.declared.attempts.Cause.{Cause}
use Rattle.rx_world.specs.declared.attempts.Cause.TheVariants as causes
use Rattle.rx_world.specs.declared.attempts.End.{End}
use Rattle.rx_world.specs.declared.attempts.End.TheVariants.{Done, Failed}
use Rattle.rx_world.specs.declared.attempts.Ended.{Ended}
use Rattle.rx_world.specs.declared.attempts.Ended.TheVariants as ended
use Rattle.rx_world.specs.declared.outcomes.Outcome.{Outcome}
use Rattle.rx_world.specs.declared.remote_causes.RemoteCause.{RemoteCause}
use Rattle.rx_world.specs.declared.remote_causes.RemoteCause.TheVariants as remote_causes

first-tellable : (x : Attempt) (end : Ended) (here there : List Ended) → AreTellable (in_order x (end ∷ here) there) → IsTellable end
first-tellable Local end here there all =
    All-contains IsTellable ((end ∷ here) ++ there) end all (Contains-append_left (end ∷ here) there end (Contains-head end here))
first-tellable Remote end here there all =
    All-contains IsTellable (there ++ end ∷ here) end all (Contains-append_right there (end ∷ here) end (Contains-head end here))

second-tellable : (x : Attempt) (end : Ended) (here there : List Ended) → AreTellable (in_order x here (end ∷ there)) → IsTellable end
second-tellable Local end here there all =
    All-contains IsTellable (here ++ end ∷ there) end all (Contains-append_right here (end ∷ there) end (Contains-head end there))
second-tellable Remote end here there all =
    All-contains IsTellable ((end ∷ there) ++ here) end all (Contains-append_left (end ∷ there) here end (Contains-head end there))

pub local-tellable : (x : Attempt) (end : Option (End Outcome Cause)) (there : List Ended) → AreTellable (in_order x (listed_local (kept_of end)) there)
    → end ≡ Some (Failed causes.NoMemory) → ⊥
local-tellable x None there all e = none-some e
local-tellable x (Some (Done outcome origin)) there all e = cc
local-tellable x (Some (Failed cause)) there all e =
    let same : cause ≡ causes.NoMemory = cc in first-tellable x (ended.Local (Failed cause)) [] there all same

pub remote-tellable : (x : Attempt) (end : Option (End Outcome RemoteCause)) (here : List Ended)
    → AreTellable (in_order x here (listed_remote (kept_of end))) → end ≡ Some (Failed remote_causes.NoMemory) → ⊥
remote-tellable x None here all e = none-some e
remote-tellable x (Some (Done outcome origin)) here all e = cc
remote-tellable x (Some (Failed cause)) here all e =
    let same : cause ≡ remote_causes.NoMemory = cc in second-tellable x (ended.Remote (Failed cause)) here [] all same
