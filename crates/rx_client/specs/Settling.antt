-- What follows on what was heard: the command runs in place, or the reply is told and nothing runs.
use Rattle.std.specs.Prelude.{◌≡◌, Bool, true, false, Result, Ok, Err}
use Rattle.rx_wrap.specs.declared.jobs.Job.{Job}
use Rattle.rx_client.specs.declared.answers.Answer.{Answer}
use Rattle.rx_client.specs.declared.answers.Answer.TheVariants as answers
use Rattle.rx_client.specs.declared.heard.Heard.{Heard}
use Rattle.rx_client.specs.declared.heard.Heard.TheVariants as heards
use Rattle.rx_client.specs.declared.talk_fault.TalkFault.{TalkFault}
use Rattle.rx_client.specs.declared.talk_fault.TalkFault.TheVariants as talks
use Rattle.rx_client.specs.declared.whys.Why.TheVariants as whys
use Rattle.rx_client.specs.Lines.{bad_reply_line, no_proxy_line}
use Rattle.rx_client.specs.Running.{RunsHere}
use Rattle.rx_client.specs.Runs.{Runs, RunsNone}
use Rattle.rx_client.specs.Said.{Said}
use Rattle.rx_client.specs.Telling.{AreSilent, TellsLine, TellsReply}

-- there is no proxy, and the command may run without one or not
abbrev pub SettlesAlone : Bool → Job → Runs → Runs → Said → Said → Answer → Type 0
SettlesAlone true job old new out err answer = RunsHere job whys.NoProxy old new out err answer
SettlesAlone false job old new out err answer =
    TellsLine answers.Conversation no_proxy_line out err answer × RunsNone old new

-- It runs in place where the proxy says so, or there is no proxy and it may run without one. Else nothing runs.
abbrev pub Settles : Job → Result Heard TalkFault → Runs → Runs → Said → Said → Answer → Type 0
Settles job (Ok (heards.Reply reply)) old new out err answer = TellsReply reply out err answer × RunsNone old new
Settles job (Ok (heards.InPlace cause)) old new out err answer = RunsHere job (whys.Told cause) old new out err answer
Settles job (Ok heards.ShutDown) old new out err answer =
    (answer ≡ answers.ShutDown) × AreSilent out err × RunsNone old new
Settles job (Err talks.Conversation) old new out err answer = SettlesAlone job.without_proxy job old new out err answer
Settles job (Err talks.BadReply) old new out err answer =
    TellsLine answers.BadReply bad_reply_line out err answer × RunsNone old new
Settles job (Err talks.NoMemory) old new out err answer =
    (answer ≡ answers.Memory) × AreSilent out err × RunsNone old new
