-- The count of a client rises with the list of faults.
use Rattle.std.proofs.Common.{◌≡◌, ◌≤◌, ℕ, ◌+◌, List, [], ◌∷◌, ◌++◌, length, refl, arith}
use Rattle.rx_world.specs.Causes.{Rose}
use Rattle.rx_blobs.specs.declared.blob_fault.BlobFault.TheVariants as blobs
use Rattle.rx_remote.specs.declared.asks.Heard.{Heard}
use Rattle.rx_remote.specs.declared.asks.Heard.TheVariants.{Begun, Blobs, Cached, Fault, Fetched, Next, Over, Stopped, Told, Uploaded}
use Rattle.rx_world.specs.declared.call_faults.CallFault.{CallFault}
use Rattle.rx_world.specs.declared.call_faults.CallFault.TheVariants as calls
use Rattle.rx_remote.specs.Faults.{faults_after, with_fault}
use Rattle.rx_remote.specs.Turns.{IsCountedHeard, IsListedFault, RoseBy}

pub longer : (faults : List CallFault) (fault : CallFault) → length (faults ++ fault ∷ []) ≡ length faults + 1
longer [] fault = omega arith
longer (f ∷ fs) fault = let rest = longer fs fault in omega arith

rose-same : (n old now new : ℕ) → RoseBy n old now → now ≤ new → RoseBy n old new
rose-same n old now new r l = omega arith

rose-more : (faults : List CallFault) (fault : CallFault) (old now new : ℕ) → RoseBy (length faults) old now → Rose now new → RoseBy (length (faults ++ fault ∷ [])) old new
rose-more faults fault old now new r s = let n = longer faults fault in rw n (omega arith)

rose-fault : (faults : List CallFault) (fault : CallFault) (old now new : ℕ) → RoseBy (length faults) old now → now ≤ new → IsListedFault now new fault → RoseBy (length (with_fault faults fault)) old new
rose-fault faults calls.NoMemory old now new r l c = rose-same (length faults) old now new r l
rose-fault faults (calls.Status code) old now new r l c = rose-more faults (calls.Status code) old now new r (c refl)
rose-fault faults calls.Link old now new r l c = rose-more faults calls.Link old now new r (c refl)
rose-fault faults (calls.Protocol code) old now new r l c = rose-more faults (calls.Protocol code) old now new r (c refl)
rose-fault faults calls.Compressed old now new r l c = rose-more faults calls.Compressed old now new r (c refl)
rose-fault faults calls.TooLarge old now new r l c = rose-more faults calls.TooLarge old now new r (c refl)
rose-fault faults calls.NoStatus old now new r l c = rose-more faults calls.NoStatus old now new r (c refl)
rose-fault faults (calls.BadMessage at) old now new r l c = rose-more faults (calls.BadMessage at) old now new r (c refl)
rose-fault faults calls.Cut old now new r l c = rose-more faults calls.Cut old now new r (c refl)
rose-fault faults (calls.BlobRefused digest code) old now new r l c = rose-more faults (calls.BlobRefused digest code) old now new r (c refl)

-- with one answer more
pub rose-on : (faults : List CallFault) (heard : Heard) (old now new : ℕ) → RoseBy (length faults) old now → now ≤ new → IsCountedHeard now new heard → RoseBy (length (faults_after faults heard)) old new
rose-on faults (Fault fault) old now new r l c = rose-fault faults fault old now new r l c
rose-on faults (Over code) old now new r l c = rose-more faults (calls.Status code) old now new r c
rose-on faults (Blobs (blobs.Call fault)) old now new r l c = rose-fault faults fault old now new r l (λ e. c)
rose-on faults (Blobs (blobs.Missing digest)) old now new r l c = rose-more faults (calls.BlobRefused digest 5) old now new r c
rose-on faults (Blobs (blobs.Refused digest code)) old now new r l c = rose-more faults (calls.BlobRefused digest code) old now new r c
rose-on faults (Blobs (blobs.BadBlob expected got)) old now new r l c = rose-same (length faults) old now new r l
rose-on faults (Blobs (blobs.InputChanged input)) old now new r l c = rose-same (length faults) old now new r l
rose-on faults (Blobs (blobs.SourceFault path)) old now new r l c = rose-same (length faults) old now new r l
rose-on faults (Blobs blobs.NoMemory) old now new r l c = rose-same (length faults) old now new r l
rose-on faults (Told told) old now new r l c = rose-same (length faults) old now new r l
rose-on faults (Cached result) old now new r l c = rose-same (length faults) old now new r l
rose-on faults (Uploaded left_out) old now new r l c = rose-same (length faults) old now new r l
rose-on faults Begun old now new r l c = rose-same (length faults) old now new r l
rose-on faults (Next operation) old now new r l c = rose-same (length faults) old now new r l
rose-on faults (Fetched texts) old now new r l c = rose-same (length faults) old now new r l
rose-on faults (Stopped decision) old now new r l c = rose-same (length faults) old now new r l
