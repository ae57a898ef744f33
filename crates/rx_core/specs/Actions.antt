-- An action: its race, what was published of it, and what was answered.
use Rattle.std.specs.Prelude.{ℕ, List, [], Option, None}
use Rattle.rx_board.specs.declared.journal.Entry.{Entry}
use Rattle.rx_core.specs.Attempts.{Finished, Idle, Progress, Running, decision_by, finished_in, offered, phase_in}
use Rattle.rx_core.specs.Remote.{Job}
use Rattle.rx_core.specs.Replies.{Reply}
use Rattle.rx_race.specs.declared.events.Event.TheVariants.{Cancel}
use Rattle.rx_race.specs.declared.standing.Standing.{Standing}
use Rattle.rx_race.specs.Publishing.{cancel_verdict}
use Rattle.rx_race.specs.Standings.{after}
use Rattle.rx_world.specs.declared.attempts.Attempt.{Attempt}
use Rattle.rx_world.specs.declared.attempts.Attempt.TheVariants.{Local, Remote}
use Rattle.rx_world.specs.declared.attempts.Cause.{Cause}
use Rattle.rx_world.specs.declared.attempts.Plan.{Plan}
use Rattle.rx_world.specs.declared.decisions.Decision.{Decision}
use Rattle.rx_world.specs.declared.decisions.Decision.TheVariants.{By, Cancelled, Nothing, Undecided}
use Rattle.rx_world.specs.declared.remote_causes.RemoteCause.{RemoteCause}

-- H is what its remote attempt hears
pub record Action (H : Type 0) : Type 0 where
  -- the number of its session
  pub session : ℕ
  pub plan : Plan
  pub job : Job
  pub local : Progress Cause
  pub remote : Progress RemoteCause
  -- what the remote attempt heard so far, the latest first
  pub heard : List H
  pub decision : Decision
  pub entry : Option Entry
  pub reply : Option Reply

-- an action of a session, before its first attempt
abbrev pub admitted : {H : Type 0} → ℕ → Plan → Job → Action H
admitted session plan job = record {
  session = session;
  plan = plan;
  job = job;
  local = Idle;
  remote = Idle;
  heard = [];
  decision = Undecided;
  entry = None;
  reply = None;
}

-- how its race stands
abbrev pub standing_of : {H : Type 0} → Action H → Standing
standing_of a = record {
  plan = a.plan;
  local = phase_in a.local;
  remote = phase_in a.remote;
  decision = a.decision;
}

-- the outcome that was offered by the attempt for which it is decided
abbrev pub winner_of : Decision → Option Finished → Option Finished → Option Finished
winner_of (By Local) local remote = local
winner_of (By Remote) local remote = remote
winner_of Undecided local remote = None
winner_of Cancelled local remote = None
winner_of Nothing local remote = None

abbrev pub won : {H : Type 0} → Action H → Option Finished
won a = winner_of a.decision (finished_in a.local) (finished_in a.remote)

-- ---- what happens in its race

abbrev pub start : {H : Type 0} → Attempt → Action H → Action H
start Local a = record a { local = Running }
start Remote a = record a { remote = Running }

-- the attempt offers the end that it has
abbrev pub offer : {H : Type 0} → Attempt → Action H → Action H
offer Local a = record a {
  local = offered a.plan Local a.decision a.local;
  decision = decision_by (standing_of a) Local a.local;
}
offer Remote a = record a {
  remote = offered a.plan Remote a.decision a.remote;
  decision = decision_by (standing_of a) Remote a.remote;
}

abbrev pub cancel : {H : Type 0} → Action H → Action H
cancel a = record a {
  decision = (after (standing_of a) (Cancel (cancel_verdict a.decision))).decision;
}
