-- Faults of calls as numbers: the kind times 256, and in the low byte a status (google.rpc.Code) or an error code (RFC 9113, section 7) of 0 to 255.
use Rattle.std.specs.Prelude.{◌≢◌, ℕ, zero, suc, ◌+◌, ◌*◌, ◌/◌, ◌%◌, ◌==◌, not, nat_lt, List, [], ◌∷◌, length, replicate, Result, Ok, Err, if◌then◌else◌}
use Rattle.std.specs.List.{flat_map}
use Rattle.rx_base.specs.Results.{◌>>=◌}
use Rattle.rx_base.specs.declared.digests.Digest.{Digest}
use Rattle.rx_wire.specs.declared.faults.WireFault.{WireFault}
use Rattle.rx_wire.specs.Varints.{shortest, varint_at}
use Rattle.rx_world.specs.declared.call_faults.CallFault.{CallFault}
use Rattle.rx_world.specs.declared.call_faults.CallFault.TheVariants as calls
use Rattle.rx_session.specs.declared.reply_fault.ReplyFault.{ReplyFault}
use Rattle.rx_session.specs.ReplyFaults.{bad_reply}

-- ---- written

-- a code that no byte holds stands as 0
abbrev pub low_byte : ℕ → ℕ
low_byte code = if nat_lt code 256 then code else 0

abbrev pub with_code : ℕ → ℕ → ℕ
with_code kind code = kind * 256 + low_byte code

-- Want of memory is the client's own and no fault of a call: it stands in no list.
abbrev pub call_fault_number : CallFault → ℕ
call_fault_number (calls.Status code) = with_code 1 code
call_fault_number calls.Link = with_code 2 0
call_fault_number (calls.Protocol code) = with_code 3 code
call_fault_number calls.Compressed = with_code 4 0
call_fault_number calls.TooLarge = with_code 5 0
call_fault_number calls.NoStatus = with_code 6 0
call_fault_number (calls.BadMessage at) = with_code 7 0
call_fault_number calls.Cut = with_code 8 0
call_fault_number (calls.BlobRefused digest code) = with_code 9 code
call_fault_number calls.NoMemory = 0

-- packed: one varint behind the other
abbrev pub packed_faults : List CallFault → List ℕ
packed_faults faults = flat_map (λ fault. shortest (call_fault_number fault)) faults

-- ---- read

-- a digest of zeros
abbrev pub no_digest : Digest
no_digest = record { hash = replicate 32 0; size = 0 }

-- the fault of a kind and a code; a kind without codes has the code 0
unfoldable pub fault_by : ℕ → ℕ → Result CallFault ReplyFault
fault_by kind code =
    if kind == 1 then Ok (calls.Status code)
    else if kind == 3 then Ok (calls.Protocol code)
    else if kind == 9 then Ok (calls.BlobRefused no_digest code)
    else if not (code == 0) then bad_reply
    else if kind == 2 then Ok calls.Link
    else if kind == 4 then Ok calls.Compressed
    else if kind == 5 then Ok calls.TooLarge
    else if kind == 6 then Ok calls.NoStatus
    else if kind == 7 then Ok (calls.BadMessage 0)
    else if kind == 8 then Ok calls.Cut
    else bad_reply

unfoldable pub fault_of : ℕ → Result CallFault ReplyFault
fault_of n = fault_by (n / 256) (n % 256)

-- bytes that spell no number are no reply's
abbrev pub or_no_number : {X : Type 0} → Result X WireFault → Result X ReplyFault
or_no_number (Ok x) = Ok x
or_no_number (Err fault) = bad_reply

-- the fault whose number stands in packed bytes at an offset, and the offset behind it
unfoldable pub fault_at : List ℕ → ℕ → Result (CallFault × ℕ) ReplyFault
fault_at packed at = do
  number ← or_no_number (varint_at packed at)
  fault ← fault_of number.0
  Ok (fault, number.1)

-- the faults whose numbers stand in packed bytes from an offset on, at most so many
unfoldable pub faults_from : ℕ → List ℕ → ℕ → Result (List CallFault) ReplyFault
faults_from zero packed at = Ok []
faults_from (suc most) packed at =
    if at == length packed then Ok []
    else do
      found ← fault_at packed at
      faults ← faults_from most packed found.1
      Ok (found.0 ∷ faults)

-- the faults of packed bytes; each number has a byte at least
unfoldable pub faults_in : List ℕ → Result (List CallFault) ReplyFault
faults_in packed = faults_from (length packed) packed 0

-- ---- what a number tells of a fault

-- no digest, no place in a message, and no code that no byte holds
abbrev pub told_fault : CallFault → CallFault
told_fault (calls.Status code) = calls.Status (low_byte code)
told_fault calls.Link = calls.Link
told_fault (calls.Protocol code) = calls.Protocol (low_byte code)
told_fault calls.Compressed = calls.Compressed
told_fault calls.TooLarge = calls.TooLarge
told_fault calls.NoStatus = calls.NoStatus
told_fault (calls.BadMessage at) = calls.BadMessage 0
told_fault calls.Cut = calls.Cut
told_fault (calls.BlobRefused digest code) = calls.BlobRefused no_digest (low_byte code)
told_fault calls.NoMemory = calls.NoMemory

-- a fault of a call, and not the client's own want of memory
abbrev pub IsOfCall : CallFault → Type 0
IsOfCall fault = fault ≢ calls.NoMemory
