-- What a history shows at its places. The latest turn stands first, so that what is behind a turn is what came before it.
use Rattle.std.specs.Prelude.{ℕ, ◌+◌, ◌||◌, Bool, true, false, List, [], ◌∷◌, Option, None, Some}
use Rattle.rx_messages.specs.declared.results.ActionResult.{ActionResult}
use Rattle.rx_world.specs.declared.attempts.Origin.{Origin}
use Rattle.rx_world.specs.declared.attempts.Origin.TheVariants as origins
use Rattle.rx_remote.specs.declared.asks.Ask.{Ask}
use Rattle.rx_remote.specs.declared.asks.Ask.TheVariants as asks
use Rattle.rx_blobs.specs.declared.blob_fault.BlobFault.{BlobFault}
use Rattle.rx_blobs.specs.declared.blob_fault.BlobFault.TheVariants as blobs
use Rattle.rx_remote.specs.declared.asks.Heard.{Heard}
use Rattle.rx_remote.specs.declared.asks.Heard.TheVariants.{Begun, Blobs, Cached, Fault, Fetched, Next, Over, Stopped, Told, Uploaded}
use Rattle.rx_world.specs.declared.call_faults.CallFault.{CallFault}
use Rattle.rx_exec_messages.specs.declared.executions.ExecuteResponse.{ExecuteResponse}
use Rattle.rx_remote.specs.declared.marks.Found.{Found}
use Rattle.rx_remote.specs.declared.marks.Marks.{Marks}
use Rattle.rx_remote.specs.declared.phases.Phase.{Phase}
use Rattle.rx_remote.specs.declared.phases.Phase.TheVariants as phases
use Rattle.rx_world.specs.declared.commands.Command.{Command}
use Rattle.rx_remote.specs.Faults.{faults_after}

-- an ask, and what was heard to it
pub record Turn : Type 0 where
  pub ask : Ask
  pub heard : Heard

-- which of the asks it is
abbrev pub phase_of : Ask → Phase
phase_of asks.Capabilities = phases.Capabilities
phase_of asks.GetResult = phases.GetResult
phase_of (asks.Upload fresh) = phases.Upload fresh
phase_of (asks.Execute skip_cache) = phases.Execute
phase_of asks.NextOperation = phases.NextOperation
phase_of (asks.Wait name) = phases.Wait
phase_of (asks.Fetch digests) = phases.Fetch
phase_of (asks.End end) = phases.Ended

-- ---- the faults, in their order

abbrev pub faults_of : List Turn → List CallFault
faults_of [] = []
faults_of (turn ∷ earlier) = faults_after (faults_of earlier) turn.heard

-- ---- the last name that was heard since the last execute; an empty one is none

abbrev pub or_name : List ℕ → List ℕ → List ℕ
or_name [] name = name
or_name (byte ∷ bytes) name = byte ∷ bytes

abbrev pub name_after : List ℕ → Heard → List ℕ
name_after name (Next operation) = or_name operation.name name
name_after name (Told capabilities) = name
name_after name (Cached result) = name
name_after name (Uploaded left_out) = name
name_after name Begun = name
name_after name (Fetched texts) = name
name_after name (Fault fault) = name
name_after name (Over code) = name
name_after name (Blobs fault) = name
name_after name (Stopped decision) = name

abbrev pub name_since : Phase → List ℕ → List ℕ
name_since phases.Execute name = []
name_since phases.Capabilities name = name
name_since phases.GetResult name = name
name_since (phases.Upload fresh) name = name
name_since phases.NextOperation name = name
name_since phases.Wait name = name
name_since phases.Fetch name = name
name_since phases.Ended name = name

abbrev pub name_of : List Turn → List ℕ
name_of [] = []
name_of (turn ∷ earlier) = name_after (name_since (phase_of turn.ask) (name_of earlier)) turn.heard

-- ---- whether the result of a cache counted as a miss

abbrev pub is_missing : BlobFault → Bool
is_missing (blobs.Missing digest) = true
is_missing (blobs.Call fault) = false
is_missing (blobs.Refused digest code) = false
is_missing (blobs.BadBlob expected got) = false
is_missing (blobs.InputChanged input) = false
is_missing (blobs.SourceFault path) = false
is_missing blobs.NoMemory = false

abbrev pub misses : Heard → Bool
misses (Blobs fault) = is_missing fault
misses (Told capabilities) = false
misses (Cached result) = false
misses (Uploaded left_out) = false
misses Begun = false
misses (Next operation) = false
misses (Fetched texts) = false
misses (Fault fault) = false
misses (Over code) = false
misses (Stopped decision) = false

abbrev pub is_missed : List Turn → Bool
is_missed [] = false
is_missed (turn ∷ earlier) = misses turn.heard || is_missed earlier

-- ---- how many operations were heard that weren't done

abbrev pub one_more : ℕ → Option ExecuteResponse → ℕ
one_more waits None = waits + 1
one_more waits (Some response) = waits

abbrev pub waits_after : ℕ → Heard → ℕ
waits_after waits (Next operation) = one_more waits operation.done
waits_after waits (Told capabilities) = waits
waits_after waits (Cached result) = waits
waits_after waits (Uploaded left_out) = waits
waits_after waits Begun = waits
waits_after waits (Fetched texts) = waits
waits_after waits (Fault fault) = waits
waits_after waits (Over code) = waits
waits_after waits (Blobs fault) = waits
waits_after waits (Stopped decision) = waits

abbrev pub waits_of : List Turn → ℕ
waits_of [] = 0
waits_of (turn ∷ earlier) = waits_after (waits_of earlier) turn.heard

-- ---- the last result that was heard

abbrev pub origin_of : Bool → Origin
origin_of true = origins.Cache
origin_of false = origins.Remote

-- a result of the command, and where it comes from
abbrev pub found_as : Command → Origin → ActionResult → Found
found_as command origin result = record { reading = record { command = command; result = result }; origin = origin }

abbrev pub found_by : Command → Origin → Option ActionResult → Option Found → Option Found
found_by command origin None earlier = earlier
found_by command origin (Some result) earlier = Some (found_as command origin result)

abbrev pub found_in_done : Command → Option ExecuteResponse → Option Found → Option Found
found_in_done command None earlier = earlier
found_in_done command (Some response) earlier = found_by command (origin_of response.cached_result) response.result earlier

abbrev pub found_after : Command → Option Found → Heard → Option Found
found_after command earlier (Cached result) = found_by command origins.Cache result earlier
found_after command earlier (Next operation) = found_in_done command operation.done earlier
found_after command earlier (Told capabilities) = earlier
found_after command earlier (Uploaded left_out) = earlier
found_after command earlier Begun = earlier
found_after command earlier (Fetched texts) = earlier
found_after command earlier (Fault fault) = earlier
found_after command earlier (Over code) = earlier
found_after command earlier (Blobs fault) = earlier
found_after command earlier (Stopped decision) = earlier

abbrev pub found_of : Command → List Turn → Option Found
found_of command [] = None
found_of command (turn ∷ earlier) = found_after command (found_of command earlier) turn.heard

-- whether it comes from the farm's action cache
abbrev pub is_cache : Origin → Bool
is_cache origins.Cache = true
is_cache origins.Local = false
is_cache origins.Remote = false

abbrev pub is_cached : Option Found → Bool
is_cached None = false
is_cached (Some found) = is_cache found.origin

-- ---- all of these, for a command

abbrev pub marks_of : Command → List Turn → Marks
marks_of command history = record {
  faults = faults_of history;
  name = name_of history;
  missed = is_missed history;
  waits = waits_of history;
  found = found_of command history;
}

-- the same after an ask of this phase, and after what was heard to it
abbrev pub marks_since : Marks → Phase → Marks
marks_since marks phase = record marks { name = name_since phase marks.name }

abbrev pub with_name : Marks → List ℕ → Marks
with_name marks name = record marks { name = or_name name marks.name }

abbrev pub one_wait_more : Marks → Marks
one_wait_more marks = record marks { waits = marks.waits + 1 }

abbrev pub with_found : Marks → Option Found → Marks
with_found marks found = record marks { found = found }

abbrev pub marks_after : Command → Marks → Heard → Marks
marks_after command marks heard = record {
  faults = faults_after marks.faults heard;
  name = name_after marks.name heard;
  missed = misses heard || marks.missed;
  waits = waits_after marks.waits heard;
  found = found_after command marks.found heard;
}
