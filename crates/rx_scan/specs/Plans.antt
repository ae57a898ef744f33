-- Which attempts are made of a command, and what becomes of one that can't be run on the farm.
use Rattle.std.specs.Prelude.{Option, None, Some, if◌then◌else◌}
use Rattle.rx_world.specs.declared.attempts.Plan.{Plan}
use Rattle.rx_world.specs.declared.attempts.Plan.TheVariants.{Both, Fallback, LocalOnly, RemoteOnly}
use Rattle.rx_world.specs.declared.commands.Strategy.{Strategy}
use Rattle.rx_world.specs.declared.commands.Strategy.TheVariants.{Local, Racing, Remote, RemoteLocalFallback}
use Rattle.rx_scan.specs.declared.plans.Choice.{Choice}

-- the plan of an ordinary command
abbrev pub ordinary_plan : Strategy → Plan
ordinary_plan Local = LocalOnly
ordinary_plan Remote = RemoteOnly
ordinary_plan RemoteLocalFallback = Fallback
ordinary_plan Racing = Both

-- the plan of a local-only or hard command that its client doesn't run, which is refused where it is to run remotely
abbrev pub kept_plan : Strategy → Option Plan
kept_plan Local = Some LocalOnly
kept_plan Remote = None
kept_plan RemoteLocalFallback = Some LocalOnly
kept_plan Racing = Some LocalOnly

-- the plan of a local-only or hard command: none where its client runs it
abbrev pub local_plan : Choice → Option Plan
local_plan choice = if choice.in_place then None else kept_plan choice.strategy
