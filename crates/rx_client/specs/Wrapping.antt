-- All that a client does: it asks, converses with the proxy, and tells; or it runs the command in place.
use Rattle.std.specs.Prelude.{ℕ, List, Option, Result, Ok, Err}
use Rattle.rx_world.specs.declared.streams.Sink as sink_of
use Rattle.rx_world.specs.declared.streams.Source as source_of
use Rattle.rx_wrap.specs.declared.asked.Asked.{Asked}
use Rattle.rx_wrap.specs.declared.jobs.Job.{Job}
use Rattle.rx_wrap.specs.declared.jobs.Task.{Task}
use Rattle.rx_wrap.specs.declared.jobs.Task.TheVariants.{Ask, RunInPlace}
use Rattle.rx_client.specs.declared.answers.Answer.{Answer}
use Rattle.rx_client.specs.declared.ask_fault.AskFault.{AskFault}
use Rattle.rx_client.specs.declared.heard.Heard.{Heard}
use Rattle.rx_client.specs.declared.outside.Connect as connect_of
use Rattle.rx_client.specs.declared.outside.Machine as machine_of
use Rattle.rx_client.specs.declared.talk_fault.TalkFault.{TalkFault}
use Rattle.rx_client.specs.declared.whys.Why.TheVariants.{Outside}
use Rattle.rx_client.specs.Asking.{Asks}
use Rattle.rx_client.specs.Connections.{Connections, UsesNone, connections}
use Rattle.rx_client.specs.Conversing.{Converses}
use Rattle.rx_client.specs.Invoked.{Invocation}
use Rattle.rx_client.specs.Running.{RunsHere}
use Rattle.rx_client.specs.Runs.{Runs, RunsNone}
use Rattle.rx_client.specs.Said.{Said}
use Rattle.rx_client.specs.Settling.{Settles}
use Rattle.rx_client.specs.Telling.{TellsFault}

-- what is there before and after: the connections, and the commands that were run in place
pub record Course (I O : Type 0) : Type 0 where
  pub old : Connections I O
  pub new : Connections I O
  pub ran : Runs
  pub runs : Runs

abbrev pub course : {C I O M : Type 0} → connect_of.Ghosts C I O → machine_of.Ghosts M → C → C → M → M → Course I O
course c m before after machine machine' = record {
  old = connections c before;
  new = connections c after;
  ran = m.runs machine;
  runs = m.runs machine';
}

-- what was asked for was said to the proxy, and what follows on what was heard was done
pub record Serves {I O : Type 0} (i : source_of.Ghosts I) (o : sink_of.Ghosts O) (course : Course I O) (job : Job) (asked : Asked)
    (out err : Said) (answer : Answer) : Type 0 where
  pub heard : Result Heard TalkFault
  pub converses : Converses i o course.old course.new asked heard
  pub settles : Settles job heard course.ran course.runs out err answer

-- the proxy is asked, or the command runs in place and nothing is called
abbrev pub Does : {I O : Type 0} → source_of.Ghosts I → sink_of.Ghosts O → Course I O → Job → Said → Said → Answer → Task → Type 0
Does i o course job out err answer (Ask asked) = Serves i o course job asked out err answer
Does i o course job out err answer RunInPlace =
    UsesNone course.old course.new × RunsHere job Outside course.ran course.runs out err answer

abbrev pub Takes : {I O : Type 0} → source_of.Ghosts I → sink_of.Ghosts O → Course I O → Said → Said → Answer → Result Job AskFault → Type 0
Takes i o course out err answer (Ok job) = Does i o course job out err answer job.task
Takes i o course out err answer (Err fault) =
    UsesNone course.old course.new × RunsNone course.ran course.runs × TellsFault fault out err answer

-- what the invocation asks for was done, or why nothing is done was told
pub record Wraps {I O : Type 0} (i : source_of.Ghosts I) (o : sink_of.Ghosts O) (held : List ℕ → Option (List ℕ))
    (resolved : List ℕ → Option (Option (List ℕ))) (invocation : Invocation) (course : Course I O) (out err : Said) (answer : Answer)
    : Type 0 where
  pub job : Result Job AskFault
  pub asks : Asks held resolved invocation job
  pub takes : Takes i o course out err answer job
