-- What faults and texts lead to, and which causes they leave out.
use Rattle.std.proofs.Common.{ℕ, Bool, true, false, cond, List, [], ◌∷◌, Option, None, Some}
use Rattle.std.specs.Prelude.{nat_lt}
use Rattle.rx_world.specs.declared.call_faults.CallFault.{CallFault}
use Rattle.rx_world.specs.declared.remote_causes.RemoteCause.TheVariants as causes
use Rattle.rx_world.specs.declared.versions.SemVer.{SemVer}
use Rattle.rx_blobs.specs.declared.blob_fault.BlobFault.{BlobFault}
use Rattle.rx_blobs.specs.declared.blob_fault.BlobFault.TheVariants as blobs
use Rattle.rx_remote.specs.declared.asks.Ask.{Ask}
use Rattle.rx_remote.specs.declared.asks.Ask.TheVariants.{Execute, NextOperation, Upload}
use Rattle.rx_remote.specs.declared.marks.Found.{Found}
use Rattle.rx_remote.specs.declared.marks.Marks.{Marks}
use Rattle.rx_remote.specs.declared.phases.Phase.{Phase}
use Rattle.rx_remote.specs.declared.phases.Phase.TheVariants as phases
use Rattle.rx_remote.specs.declared.tasks.Task.{Task}
use Rattle.rx_remote.specs.Faults.{has_code, is_no_memory, lacked_blobs}
use Rattle.rx_remote.specs.Fine.{IfEnded}
use Rattle.rx_remote.specs.History.{after_blobs, after_fault, after_missing, after_over, after_range, again, asks_again, by_name, counts_as_miss, excludes, failed, fetch_again, finished, first_ask, most_waits, next_or_spent, run_again, runs_again, skips, unless_asked_again}
use Rattle.rx_world.specs.declared.remote_causes.RemoteCause.{RemoteCause}
use Rattle.rx_remote.specs.Reading.{BlobsGive}

-- the causes that faults and versions may leave
pub record IsPlain (P : RemoteCause → Type 0) : Type 0 where
  pub version : (low high : SemVer) → P (causes.WrongVersion low high)
  pub spent : P causes.OperationsSpent
  pub calls : (faults : List CallFault) → P (causes.CallFailed faults)
  pub memory : P causes.NoMemory

pub either-ends : (P : RemoteCause → Type 0) (b : Bool) (x y : Ask) → IfEnded P x → IfEnded P y → IfEnded P (cond b x y)
either-ends P true x y f g = f
either-ends P false x y f g = g

pub first-ends : (P : RemoteCause → Type 0) (accepts : Bool) → IfEnded P (first_ask accepts)
first-ends P true = tt
first-ends P false = tt

pub range-ends : (P : RemoteCause → Type 0) → IsPlain P → (accepts : Bool) (low high : Option SemVer) → IfEnded P (after_range accepts low high)
range-ends P plain accepts (Some low) (Some high) =
    either-ends P (excludes low high) (failed (causes.WrongVersion low high)) (first_ask accepts) (plain.version low high) (first-ends P accepts)
range-ends P plain accepts None high = first-ends P accepts
range-ends P plain accepts (Some low) None = first-ends P accepts

pub spent-ends : (P : RemoteCause → Type 0) → IsPlain P → (marks : Marks) → IfEnded P (next_or_spent marks)
spent-ends P plain marks = either-ends P (nat_lt marks.waits most_waits) NextOperation (failed causes.OperationsSpent) tt plain.spent

pub finished-ends : (P : RemoteCause → Type 0) → IsPlain P → (found : Option Found) (texts : List (List ℕ)) → IfEnded P (finished found texts)
finished-ends P plain None texts = plain.memory
finished-ends P plain (Some f) texts = tt

name-ends : (P : RemoteCause → Type 0) (task : Task) (marks : Marks) (name : List ℕ) → IfEnded P (by_name task marks name)
name-ends P task marks [] = tt
name-ends P task marks (byte ∷ bytes) = tt

refetch-ends : (P : RemoteCause → Type 0) (found : Option Found) → IfEnded P (fetch_again found)
refetch-ends P None = tt
refetch-ends P (Some f) = tt

again-ends : (P : RemoteCause → Type 0) → P causes.NoMemory → (task : Task) (marks : Marks) (phase : Phase) (fault : CallFault) → IfEnded P (again task marks phase fault)
again-ends P memory task marks phases.Capabilities fault = tt
again-ends P memory task marks phases.GetResult fault = tt
again-ends P memory task marks (phases.Upload fresh) fault = tt
again-ends P memory task marks phases.Execute fault = either-ends P (has_code 9 fault) (Upload true) (Execute (skips task marks)) tt tt
again-ends P memory task marks phases.NextOperation fault =
    either-ends P (has_code 9 fault) (Upload true) (by_name task marks marks.name) tt (name-ends P task marks marks.name)
again-ends P memory task marks phases.Wait fault =
    either-ends P (has_code 5 fault) (Execute (skips task marks)) (by_name task marks marks.name) tt (name-ends P task marks marks.name)
again-ends P memory task marks phases.Fetch fault = refetch-ends P marks.found
again-ends P memory task marks phases.Ended fault = memory

-- of the calls that failed, an end tells the list of the marks
unless-by : (P : RemoteCause → Type 0) (task : Task) (marks : Marks) (phase : Phase) (fault : CallFault) (b : Bool) → P causes.NoMemory → P (causes.CallFailed marks.faults) →
    IfEnded P (unless_asked_again task marks phase fault b)
unless-by P task marks phase fault true memory calls = again-ends P memory task marks phase fault
unless-by P task marks phase fault false memory calls = calls

pub fault-by : (P : RemoteCause → Type 0) (task : Task) (marks : Marks) (phase : Phase) (fault : CallFault) → P causes.NoMemory → P (causes.CallFailed marks.faults) →
    IfEnded P (after_fault task marks phase fault)
unfolding after_fault
fault-by P task marks phase fault memory calls =
    either-ends P (is_no_memory fault) (failed causes.NoMemory) (unless_asked_again task marks phase fault (asks_again marks phase fault)) memory
    (unless-by P task marks phase fault (asks_again marks phase fault) memory calls)

pub over-by : (P : RemoteCause → Type 0) (task : Task) (marks : Marks) (code : ℕ) → P (causes.CallFailed marks.faults) → IfEnded P (after_over task marks code)
unfolding after_over
over-by P task marks code calls =
    either-ends P (runs_again marks code) (run_again task marks code) (failed (causes.CallFailed marks.faults))
    (either-ends P (lacked_blobs code) (Upload true) (Execute (skips task marks)) tt tt) calls

pub missing-by : (P : RemoteCause → Type 0) (marks : Marks) (phase : Phase) → P (causes.CallFailed marks.faults) → IfEnded P (after_missing marks phase)
unfolding after_missing
missing-by P marks phase calls = either-ends P (counts_as_miss marks phase) (Upload false) (failed (causes.CallFailed marks.faults)) tt calls

pub fault-ends : (P : RemoteCause → Type 0) → IsPlain P → (task : Task) (marks : Marks) (phase : Phase) (fault : CallFault) → IfEnded P (after_fault task marks phase fault)
fault-ends P plain task marks phase fault = fault-by P task marks phase fault plain.memory (plain.calls marks.faults)

pub over-ends : (P : RemoteCause → Type 0) → IsPlain P → (task : Task) (marks : Marks) (code : ℕ) → IfEnded P (after_over task marks code)
over-ends P plain task marks code = over-by P task marks code (plain.calls marks.faults)

missing-ends : (P : RemoteCause → Type 0) → IsPlain P → (marks : Marks) (phase : Phase) → IfEnded P (after_missing marks phase)
missing-ends P plain marks phase = missing-by P marks phase (plain.calls marks.faults)

-- of an upload or a fetch that failed
pub blobs-ends : (P : RemoteCause → Type 0) → IsPlain P → (task : Task) (marks : Marks) (phase : Phase) (fault : BlobFault) → BlobsGive P fault →
    IfEnded P (after_blobs task marks phase fault)
blobs-ends P plain task marks phase (blobs.Call fault) given = fault-ends P plain task marks phase fault
blobs-ends P plain task marks phase (blobs.Missing digest) given = missing-ends P plain marks phase
blobs-ends P plain task marks phase (blobs.Refused digest code) given = plain.calls marks.faults
blobs-ends P plain task marks phase (blobs.BadBlob expected got) given = given
blobs-ends P plain task marks phase (blobs.InputChanged input) given = given
blobs-ends P plain task marks phase (blobs.SourceFault path) given = given
blobs-ends P plain task marks phase blobs.NoMemory given = plain.memory
