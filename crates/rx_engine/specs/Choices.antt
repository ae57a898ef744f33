-- How a request's step may run, and whether its client runs it where it can't be taken.
use Rattle.std.specs.Prelude.{Bool, true, false, ◌&&◌}
use Rattle.rx_scan.specs.declared.plans.Choice.{Choice}
use Rattle.rx_session.specs.declared.requests.Request.{Request}
use Rattle.rx_world.specs.declared.commands.Kind.{Kind}
use Rattle.rx_world.specs.declared.commands.Kind.TheVariants.{Compile, Tool}
use Rattle.rx_world.specs.declared.commands.Strategy.{Strategy}
use Rattle.rx_world.specs.declared.commands.Strategy.TheVariants.{Local, Racing, Remote, RemoteLocalFallback}

abbrev pub is_compile : Kind → Bool
is_compile Tool = false
is_compile Compile = true

-- a strategy by which a step may run on this machine
abbrev pub may_run_here : Strategy → Bool
may_run_here Local = true
may_run_here Remote = false
may_run_here RemoteLocalFallback = true
may_run_here Racing = true

-- the strategy, and that a compile step which is kept on this machine isn't run by the proxy where its client says so
abbrev pub choice_of : Request → Choice
choice_of request = record { strategy = request.strategy; in_place = request.in_place && is_compile request.kind }

-- The client itself runs the step where it can't be taken: it says so, and the step is a compile step that may run on this machine.
abbrev pub client_runs : Request → Bool
client_runs request = (choice_of request).in_place && may_run_here request.strategy
