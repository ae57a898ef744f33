-- Which histories a remote attempt may have.
use Rattle.std.specs.Prelude.{◌≡◌, ◌≢◌, ◌⊎◌, false, true, List, [], ◌∷◌, All, Contains, map}
use Rattle.rx_base.specs.Digests.{digest_of}
use Rattle.rx_base.specs.declared.digests.Digest.{Digest}
use Rattle.rx_remote.specs.declared.asks.Ask.{Ask}
use Rattle.rx_remote.specs.declared.asks.Ask.TheVariants.{Capabilities, Fetch, GetResult, NextOperation, Upload}
use Rattle.rx_remote.specs.declared.asks.Heard.{Heard}
use Rattle.rx_remote.specs.declared.asks.Heard.TheVariants.{Begun, Blobs, Cached, Fault, Fetched, Next, Over, Stopped, Told, Uploaded}
use Rattle.rx_remote.specs.declared.phases.Phase.{Phase}
use Rattle.rx_remote.specs.declared.phases.Phase.TheVariants as phases
use Rattle.rx_remote.specs.declared.tasks.Task.{Task}
use Rattle.rx_remote.specs.History.{next_of}
use Rattle.rx_remote.specs.Marks.{Turn, phase_of}

-- a call that is one exchange: its fault is told as it is
abbrev pub IsCall : Phase → Type 0
IsCall phases.Capabilities = Unit {0}
IsCall phases.GetResult = Unit {0}
IsCall phases.Execute = Unit {0}
IsCall phases.NextOperation = Unit {0}
IsCall phases.Wait = Unit {0}
IsCall (phases.Upload fresh) = ⊥
IsCall phases.Fetch = ⊥
IsCall phases.Ended = ⊥

abbrev pub IsOfBlobs : Phase → Type 0
IsOfBlobs (phases.Upload fresh) = Unit {0}
IsOfBlobs phases.Fetch = Unit {0}
IsOfBlobs phases.Capabilities = ⊥
IsOfBlobs phases.GetResult = ⊥
IsOfBlobs phases.Execute = ⊥
IsOfBlobs phases.NextOperation = ⊥
IsOfBlobs phases.Wait = ⊥
IsOfBlobs phases.Ended = ⊥

abbrev pub IsBeginning : Phase → Type 0
IsBeginning phases.Execute = Unit {0}
IsBeginning phases.Wait = Unit {0}
IsBeginning phases.Capabilities = ⊥
IsBeginning phases.GetResult = ⊥
IsBeginning (phases.Upload fresh) = ⊥
IsBeginning phases.NextOperation = ⊥
IsBeginning phases.Fetch = ⊥
IsBeginning phases.Ended = ⊥

-- What was heard answers its ask, where the action's blobs have these digests. Blobs that were left out of an upload are of the action,
-- and none is left out of a fresh one. Each text that was fetched has the digest asked, in the order asked.
abbrev pub Fits : List Digest → Ask → Heard → Type 0
Fits blobs ask (Told capabilities) = ask ≡ Capabilities
Fits blobs ask (Cached result) = ask ≡ GetResult
Fits blobs ask (Uploaded left_out) = All (λ digest. Contains blobs digest) left_out × ((ask ≡ Upload false) ⊎ ((ask ≡ Upload true) × (left_out ≡ [])))
Fits blobs ask Begun = IsBeginning (phase_of ask)
Fits blobs ask (Next operation) = ask ≡ NextOperation
Fits blobs ask (Fetched texts) = ask ≡ Fetch (map digest_of texts)
Fits blobs ask (Fault fault) = IsCall (phase_of ask)
Fits blobs ask (Over code) = ask ≡ NextOperation
Fits blobs ask (Blobs fault) = IsOfBlobs (phase_of ask)
Fits blobs ask (Stopped decision) = phase_of ask ≢ phases.Ended

-- Each ask is the one that was left at its place, and what was heard answers it.
abbrev pub IsLegal : Task → List Digest → List Turn → Type 0
IsLegal task blobs [] = Unit {0}
IsLegal task blobs (turn ∷ earlier) = (turn.ask ≡ next_of task earlier) × Fits blobs turn.ask turn.heard × IsLegal task blobs earlier
