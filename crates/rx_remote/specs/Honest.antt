-- Histories in which a farm answered honestly.
use Rattle.std.specs.Prelude.{◌≡◌, ℕ, List, [], ◌∷◌, Option, None, Some, IfSome, map}
use Rattle.rx_base.specs.declared.digests.Digest.{Digest}
use Rattle.rx_messages.specs.declared.results.ActionResult.{ActionResult}
use Rattle.rx_world.specs.declared.commands.Command.{Command}
use Rattle.rx_world.specs.declared.outcomes.Outcome.{Outcome}
use Rattle.rx_remote.specs.declared.asks.Ask.{Ask}
use Rattle.rx_remote.specs.declared.asks.Ask.TheVariants as asks
use Rattle.rx_remote.specs.declared.asks.Heard.{Heard}
use Rattle.rx_remote.specs.declared.asks.Heard.TheVariants.{Begun, Blobs, Cached, Fault, Fetched, Next, Over, Stopped, Told, Uploaded}
use Rattle.rx_exec_messages.specs.declared.executions.ExecuteResponse.{ExecuteResponse}
use Rattle.rx_results.specs.Agreement.{Agrees}
use Rattle.rx_blobs.specs.Faults.{IsBadBlob}
use Rattle.rx_remote.specs.Marks.{Turn}

-- a result that agrees with an outcome; a response without one agrees with nothing
abbrev pub HasAgreed : (Digest → List ℕ) → Command → Outcome → Option ActionResult → Type 0
HasAgreed blob command outcome (Some result) = Agrees blob command outcome result
HasAgreed blob command outcome None = ⊥

abbrev pub IsHonestDone : (Digest → List ℕ) → Command → Outcome → Option ExecuteResponse → Type 0
IsHonestDone blob command outcome None = Unit {0}
IsHonestDone blob command outcome (Some response) = HasAgreed blob command outcome response.result

-- what was heard is what an honest farm answers, whose runs of the command have this outcome
abbrev pub IsHonestHeard : (Digest → List ℕ) → Command → Outcome → Ask → Heard → Type 0
IsHonestHeard blob command outcome ask (Cached result) = IfSome result (Agrees blob command outcome)
IsHonestHeard blob command outcome ask (Next operation) = IsHonestDone blob command outcome operation.done
IsHonestHeard blob command outcome ask (Fetched texts) = (digests : List Digest) → ask ≡ asks.Fetch digests → texts ≡ map blob digests
IsHonestHeard blob command outcome ask (Blobs fault) = IsBadBlob fault → ⊥
IsHonestHeard blob command outcome ask (Told capabilities) = Unit {0}
IsHonestHeard blob command outcome ask (Uploaded left_out) = Unit {0}
IsHonestHeard blob command outcome ask Begun = Unit {0}
IsHonestHeard blob command outcome ask (Fault fault) = Unit {0}
IsHonestHeard blob command outcome ask (Over code) = Unit {0}
IsHonestHeard blob command outcome ask (Stopped decision) = Unit {0}

abbrev pub IsHonestHistory : (Digest → List ℕ) → Command → Outcome → List Turn → Type 0
IsHonestHistory blob command outcome [] = Unit {0}
IsHonestHistory blob command outcome (turn ∷ earlier) = IsHonestHeard blob command outcome turn.ask turn.heard × IsHonestHistory blob command outcome earlier
