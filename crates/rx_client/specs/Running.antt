-- A command that runs in place: once, as it was given and where the client was called, and its status is the client's.
use Rattle.std.specs.Prelude.{Bool, true, false}
use Rattle.rx_wrap.specs.declared.jobs.Job.{Job}
use Rattle.rx_client.specs.declared.answers.Answer.{Answer}
use Rattle.rx_client.specs.declared.answers.Answer.TheVariants as answers
use Rattle.rx_client.specs.declared.ran.Ran.{Ran}
use Rattle.rx_client.specs.declared.whys.Why.{Why}
use Rattle.rx_client.specs.Lines.{why_line}
use Rattle.rx_client.specs.Runs.{Run, Runs, RunsNone, RunsOnce}
use Rattle.rx_client.specs.Said.{IsSilent, Said, Says}

-- the run of a job's command that ended so
abbrev pub run_of : Job → Ran → Run
run_of job ended = record { words = job.command; directory = job.directory; ended = ended }

-- why it runs in place is told only where that is asked for
abbrev pub TellsWhy : Bool → Why → Said → Type 0
TellsWhy true why err = Says err (why_line why)
TellsWhy false why err = IsSilent err

-- without memory the line may be written or not
abbrev pub MayTell : Bool → Said → Type 0
MayTell true err = Unit {0}
MayTell false err = IsSilent err

-- The command ran once, and the answer is how it ended; or memory ran out, and nothing ran.
abbrev pub RunsHere : Job → Why → Runs → Runs → Said → Said → Answer → Type 0
RunsHere job why old new out err (answers.RanHere ended) =
    RunsOnce (run_of job ended) old new × IsSilent out × TellsWhy job.verbose why err
RunsHere job why old new out err answers.Memory = RunsNone old new × IsSilent out × MayTell job.verbose err
RunsHere job why old new out err answer = ⊥
