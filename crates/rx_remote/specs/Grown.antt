-- Which calls a farm's client made in an attempt, turn by turn.
use Rattle.std.specs.Prelude.{◌≡◌, ◌++◌, List, [], ◌∷◌, Ok, Err, map}
use Rattle.rx_base.specs.Digests.{digest_of}
use Rattle.rx_base.specs.declared.digests.Digest.{Digest}
use Rattle.rx_world.specs.declared.call_faults.CallFault.{CallFault}
use Rattle.rx_exec_messages.specs.declared.exchanges.Exchange.{Exchange}
use Rattle.rx_exec_messages.specs.declared.exchanges.Exchange.TheVariants as calls
use Rattle.rx_exec_messages.specs.declared.state_faults.StateFault.TheVariants as states
use Rattle.rx_blobs.specs.declared.blob_fault.BlobFault.{BlobFault}
use Rattle.rx_blobs.specs.Fetches.{IsFetch}
use Rattle.rx_blobs.specs.Uploads.{IsUpload}
use Rattle.rx_remote.specs.declared.asks.Ask.{Ask}
use Rattle.rx_remote.specs.declared.asks.Ask.TheVariants as asks
use Rattle.rx_remote.specs.declared.asks.Heard.{Heard}
use Rattle.rx_remote.specs.declared.asks.Heard.TheVariants.{Begun, Blobs, Cached, Fault, Fetched, Next, Over, Stopped, Told, Uploaded}
use Rattle.rx_remote.specs.Marks.{Turn}

-- the call by which an execution was begun, or waited for
abbrev pub IsBegun : Digest → Ask → List Exchange → Type 0
IsBegun action (asks.Execute skip_cache) part = part ≡ calls.Execute action skip_cache (Ok tt) ∷ []
IsBegun action (asks.Wait name) part = part ≡ calls.Wait name (Ok tt) ∷ []
IsBegun action asks.Capabilities part = ⊥
IsBegun action asks.GetResult part = ⊥
IsBegun action (asks.Upload fresh) part = ⊥
IsBegun action asks.NextOperation part = ⊥
IsBegun action (asks.Fetch digests) part = ⊥
IsBegun action (asks.End end) part = ⊥

-- the call that failed
abbrev pub IsFailedCall : Digest → Ask → CallFault → List Exchange → Type 0
IsFailedCall action asks.Capabilities fault part = part ≡ calls.Capabilities (Err fault) ∷ []
IsFailedCall action asks.GetResult fault part = part ≡ calls.GetResult action (Err fault) ∷ []
IsFailedCall action (asks.Execute skip_cache) fault part = part ≡ calls.Execute action skip_cache (Err fault) ∷ []
IsFailedCall action (asks.Wait name) fault part = part ≡ calls.Wait name (Err fault) ∷ []
IsFailedCall action asks.NextOperation fault part = part ≡ calls.NextOperation (Err (states.Stream fault)) ∷ []
IsFailedCall action (asks.Upload fresh) fault part = ⊥
IsFailedCall action (asks.Fetch digests) fault part = ⊥
IsFailedCall action (asks.End end) fault part = ⊥

-- the calls of an upload of the action's blobs, or of a fetch, that failed
abbrev pub IsFailedTransfer : List Digest → Ask → BlobFault → List Exchange → Type 0
IsFailedTransfer stored (asks.Upload fresh) fault part = IsUpload stored (Err fault) part
IsFailedTransfer stored (asks.Fetch digests) fault part = IsFetch digests (Err fault) part
IsFailedTransfer stored asks.Capabilities fault part = ⊥
IsFailedTransfer stored asks.GetResult fault part = ⊥
IsFailedTransfer stored (asks.Execute skip_cache) fault part = ⊥
IsFailedTransfer stored asks.NextOperation fault part = ⊥
IsFailedTransfer stored (asks.Wait name) fault part = ⊥
IsFailedTransfer stored (asks.End end) fault part = ⊥

-- The calls of one turn, of an action that has blobs of these digests: one, but any number for blobs, and none where the attempt was
-- stopped.
abbrev pub IsPart : Digest → List Digest → Ask → Heard → List Exchange → Type 0
IsPart action stored ask (Told told) part = part ≡ calls.Capabilities (Ok told) ∷ []
IsPart action stored ask (Cached result) part = part ≡ calls.GetResult action (Ok result) ∷ []
IsPart action stored ask (Uploaded left_out) part = IsUpload stored (Ok left_out) part
IsPart action stored ask Begun part = IsBegun action ask part
IsPart action stored ask (Next operation) part = part ≡ calls.NextOperation (Ok operation) ∷ []
IsPart action stored ask (Fetched texts) part = IsFetch (map digest_of texts) (Ok texts) part
IsPart action stored ask (Fault fault) part = IsFailedCall action ask fault part
IsPart action stored ask (Over code) part = part ≡ calls.NextOperation (Err (states.Over code)) ∷ []
IsPart action stored ask (Blobs fault) part = IsFailedTransfer stored ask fault part
IsPart action stored ask (Stopped decision) part = part ≡ []

-- the calls of a whole history, in their order
abbrev pub Grew : Digest → List Digest → List Turn → List Exchange → Type 0
Grew action stored [] all = all ≡ []
Grew action stored (turn ∷ earlier) all =
    (front : List Exchange) × (part : List Exchange) × (all ≡ front ++ part) × Grew action stored earlier front × IsPart action stored turn.ask turn.heard part
