-- The reader as the specification has it.
use Rattle.std.specs.Prelude.{◌≡◌, ◌≤◌, ℕ, List, [], ◌∷◌, drop, Option, None, Some, Result, OnOk}
use Rattle.rx_grpc.specs.declared.framing.Sign.{Sign}
use Rattle.rx_grpc.specs.declared.framing.Sign.TheVariants as Signs
use Rattle.rx_grpc.specs.declared.reader.Reader.{Reader}
use Rattle.rx_grpc.specs.Framing.{Next, Whole, Lacks, IsCompressed, IsTooLarge, next_message}
use Rattle.rx_grpc.specs.Heard.{Heard}

abbrev pub heard_of : Reader → Heard
heard_of r = record { head = r.head; rest = r.rest.items; messages = r.messages.items; end = r.end; status_text = r.status_text.items; details = r.details }

-- the code tells what the bytes begin with
abbrev pub sees : List ℕ → Sign → Next
sees bytes Signs.Whole = Whole (drop 5 bytes)
sees bytes (Signs.Lacks n) = Lacks n
sees bytes Signs.Compressed = IsCompressed
sees bytes Signs.TooLarge = IsTooLarge

-- so many bytes are lacking to the next sign
abbrev pub IsReady : Heard → ℕ → Type 0
IsReady h lacking = h.end ≡ None → next_message h.rest ≡ Lacks lacking

-- a whole message has its flag and its length
abbrev pub IsLong : Sign → ℕ → Type 0
IsLong Signs.Whole size = 5 ≤ size
IsLong (Signs.Lacks n) size = Unit {0}
IsLong Signs.Compressed size = Unit {0}
IsLong Signs.TooLarge size = Unit {0}

-- a call that had memory leaves this
abbrev pub Becomes : {E : Type 0} → Result (Unit {0}) E → Reader → Heard → Type 0
Becomes result new want = OnOk result (heard_of new ≡ want)

-- a message is handed out, or there is none
abbrev pub HandsOut : List (List ℕ) → List (List ℕ) → Option (List ℕ) → Type 0
HandsOut old new None = (old ≡ []) × (new ≡ [])
HandsOut old new (Some message) = old ≡ message ∷ new
