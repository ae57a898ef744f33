-- The end that an ask is, the decision of a race, where an attempt heard of it, and the calls that failed.
use Rattle.std.specs.Prelude.{◌≡◌, ◌≤◌, length, Option, None, Some}
use Rattle.rx_world.specs.declared.attempts.End.{End}
use Rattle.rx_world.specs.declared.attempts.End.TheVariants as ends
use Rattle.rx_world.specs.declared.decisions.Decision.{Decision}
use Rattle.rx_world.specs.declared.outcomes.Outcome.{Outcome}
use Rattle.rx_world.specs.declared.remote_causes.RemoteCause.{RemoteCause}
use Rattle.rx_world.specs.declared.remote_causes.RemoteCause.TheVariants as causes
use Rattle.rx_world.specs.Decisions.{StopsBy}
use Rattle.rx_remote.specs.declared.asks.Ask.{Ask}
use Rattle.rx_remote.specs.declared.asks.Ask.TheVariants.{Capabilities, End as Ends, Execute, Fetch, GetResult, NextOperation, Upload, Wait}
use Rattle.rx_remote.specs.declared.asks.Heard.{Heard}
use Rattle.rx_remote.specs.declared.asks.Heard.TheVariants.{Begun, Blobs, Cached, Fault, Fetched, Next, Over, Stopped, Told, Uploaded}

-- the decision that was heard
abbrev pub stop_heard : Heard → Option Decision
stop_heard (Stopped decision) = Some decision
stop_heard (Told capabilities) = None
stop_heard (Cached result) = None
stop_heard (Uploaded left_out) = None
stop_heard Begun = None
stop_heard (Next operation) = None
stop_heard (Fetched texts) = None
stop_heard (Fault fault) = None
stop_heard (Over code) = None
stop_heard (Blobs fault) = None

-- the end, where the ask is that
abbrev pub end_in : Ask → Option (End Outcome RemoteCause)
end_in (Ends end) = Some end
end_in Capabilities = None
end_in GetResult = None
end_in (Upload fresh) = None
end_in (Execute skip_cache) = None
end_in NextOperation = None
end_in (Wait name) = None
end_in (Fetch digests) = None

-- ---- what a stop tells

-- after an ask: the decision, where that was heard, and else what it told before
abbrev pub StopTells : Option Decision → Option Decision → Option Decision → Type 0
StopTells before now (Some decision) = StopsBy now decision
StopTells before now None = now ≡ before

abbrev pub StopTellsCause : Option Decision → Option Decision → RemoteCause → Type 0
StopTellsCause before now (causes.Stopped decision) = StopsBy now decision
StopTellsCause before now (causes.CallFailed faults) = now ≡ before
StopTellsCause before now (causes.BadBlob expected got) = now ≡ before
StopTellsCause before now (causes.BadResult fault) = now ≡ before
StopTellsCause before now causes.OperationsSpent = now ≡ before
StopTellsCause before now (causes.InputChanged input) = now ≡ before
StopTellsCause before now (causes.WrongVersion low high) = now ≡ before
StopTellsCause before now (causes.SourceFault path) = now ≡ before
StopTellsCause before now causes.NoMemory = now ≡ before

-- at the end of an attempt: the decision by which it was stopped, and else what it told before
abbrev pub StopTellsEnd : Option Decision → Option Decision → End Outcome RemoteCause → Type 0
StopTellsEnd before now (ends.Done outcome origin) = now ≡ before
StopTellsEnd before now (ends.Failed cause) = StopTellsCause before now cause

-- ---- what calls that failed tell

-- one fault at least is listed
abbrev pub ListsFault : RemoteCause → Type 0
ListsFault (causes.CallFailed faults) = 1 ≤ length faults
ListsFault (causes.BadBlob expected got) = Unit {0}
ListsFault (causes.BadResult fault) = Unit {0}
ListsFault causes.OperationsSpent = Unit {0}
ListsFault (causes.Stopped decision) = Unit {0}
ListsFault (causes.InputChanged input) = Unit {0}
ListsFault (causes.WrongVersion low high) = Unit {0}
ListsFault (causes.SourceFault path) = Unit {0}
ListsFault causes.NoMemory = Unit {0}
