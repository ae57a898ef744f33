-- What a plan has, and when its local attempt is to start.
use Rattle.std.specs.Prelude.{Bool, true, false}
use Rattle.rx_race.specs.declared.events.Verdict.TheVariants.{Late, Noted, Won}
use Rattle.rx_race.specs.declared.slips.Slip.{Slip}
use Rattle.rx_race.specs.declared.slips.Slip.TheVariants.{Live, Refused, Stopped, Told, Unused, Yielded}
use Rattle.rx_world.specs.declared.attempts.Plan.{Plan}
use Rattle.rx_world.specs.declared.attempts.Plan.TheVariants.{Both, Fallback, LocalOnly, RemoteOnly}

abbrev pub has_local : Plan → Bool
has_local LocalOnly = true
has_local RemoteOnly = false
has_local Fallback = true
has_local Both = true

abbrev pub has_remote : Plan → Bool
has_remote LocalOnly = false
has_remote RemoteOnly = true
has_remote Fallback = true
has_remote Both = true

-- both at once
abbrev pub has_both : Plan → Bool
has_both LocalOnly = false
has_both RemoteOnly = false
has_both Fallback = false
has_both Both = true

-- the pass was offered an end that may not be published, while nothing was decided
abbrev pub is_noted : Slip → Bool
is_noted (Told Noted) = true
is_noted (Told Won) = false
is_noted (Told Late) = false
is_noted Unused = false
is_noted Refused = false
is_noted Live = false
is_noted (Stopped seen) = false
is_noted (Yielded seen) = false

-- whether the local attempt is to start, by what became of the remote one's pass: where it falls back, only after that was noted
abbrev pub is_due_here : Plan → Slip → Bool
is_due_here LocalOnly remote = true
is_due_here RemoteOnly remote = false
is_due_here Fallback remote = is_noted remote
is_due_here Both remote = true
