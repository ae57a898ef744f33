-- What a fetch of blobs asked and was given.
use Rattle.std.specs.Prelude.{◌≡◌, ◌++◌, ℕ, List, [], ◌∷◌, Option, None, Some, Result, Ok, Err, if◌then◌else◌, map}
use Rattle.std.specs.List.{AllByRecursion, flat_map}
use Rattle.rx_base.specs.Digests.{digest_of}
use Rattle.rx_base.specs.declared.digests.Digest.{Digest}
use Rattle.rx_world.specs.declared.call_faults.CallFault.{CallFault}
use Rattle.rx_world.specs.declared.world.World as world
use Rattle.rx_exec_messages.specs.declared.callers.Caller as callers
use Rattle.rx_exec_messages.specs.declared.exchanges.Exchange.{Exchange}
use Rattle.rx_exec_messages.specs.declared.exchanges.Exchange.TheVariants.{Capabilities, Execute, FindMissing, GetResult, NextOperation, Read, ReadStream, Update, Wait, WriteStream}
use Rattle.rx_exec_messages.specs.Exchanged.{HasExchanged}
use Rattle.rx_blobs.specs.declared.blob_fault.BlobFault.{BlobFault}
use Rattle.rx_blobs.specs.declared.blob_fault.BlobFault.TheVariants as faults
use Rattle.rx_blobs.specs.Faults.{is_without_batches, is_without_updates, of_ask, of_batch, of_stream, of_update, of_write}

-- a list that was answered, or nothing
abbrev pub if_answered : {T A : Type 0} → Result T CallFault → List A → List A
if_answered (Ok answer) items = items
if_answered (Err fault) items = []

-- the blobs that an exchange gave
abbrev pub digests_given : Exchange → List Digest
digests_given (Read digests answer) = if_answered answer digests
digests_given (ReadStream digest answer) = if_answered answer (digest ∷ [])
digests_given (Capabilities answer) = []
digests_given (GetResult action answer) = []
digests_given (FindMissing digests answer) = []
digests_given (Update blobs answer) = []
digests_given (WriteStream digest bytes answer) = []
digests_given (Execute action skip answer) = []
digests_given (Wait name answer) = []
digests_given (NextOperation answer) = []

abbrev pub texts_read : Result (List (List ℕ)) CallFault → List (List ℕ)
texts_read (Ok texts) = texts
texts_read (Err fault) = []

abbrev pub text_read : Result (List ℕ) CallFault → List (List ℕ)
text_read (Ok text) = text ∷ []
text_read (Err fault) = []

-- their bytes
abbrev pub texts_given : Exchange → List (List ℕ)
texts_given (Read digests answer) = texts_read answer
texts_given (ReadStream digest answer) = text_read answer
texts_given (Capabilities answer) = []
texts_given (GetResult action answer) = []
texts_given (FindMissing digests answer) = []
texts_given (Update blobs answer) = []
texts_given (WriteStream digest bytes answer) = []
texts_given (Execute action skip answer) = []
texts_given (Wait name answer) = []
texts_given (NextOperation answer) = []

abbrev pub batch_fault : {T : Type 0} → Result T CallFault → Option BlobFault
batch_fault (Ok answer) = None
batch_fault (Err fault) = if is_without_batches fault then None else Some (of_batch fault)

abbrev pub stream_fault : {T : Type 0} → Digest → Result T CallFault → Option BlobFault
stream_fault digest (Ok answer) = None
stream_fault digest (Err fault) = Some (of_stream digest fault)

abbrev pub ask_fault : {T : Type 0} → Result T CallFault → Option BlobFault
ask_fault (Ok answer) = None
ask_fault (Err fault) = Some (of_ask fault)

abbrev pub update_fault : {T : Type 0} → Result T CallFault → Option BlobFault
update_fault (Ok answer) = None
update_fault (Err fault) = if is_without_updates fault then None else Some (of_update fault)

abbrev pub write_fault : {T : Type 0} → Digest → Result T CallFault → Option BlobFault
write_fault digest (Ok answer) = None
write_fault digest (Err fault) = Some (of_write digest fault)

-- the fault that an exchange ends a fetch or an upload with; a farm without batches is asked for streams
abbrev pub fault_shown : Exchange → Option BlobFault
fault_shown (Read digests answer) = batch_fault answer
fault_shown (ReadStream digest answer) = stream_fault digest answer
fault_shown (Capabilities answer) = None
fault_shown (GetResult action answer) = None
fault_shown (FindMissing digests answer) = ask_fault answer
fault_shown (Update blobs answer) = update_fault answer
fault_shown (WriteStream digest bytes answer) = write_fault digest answer
fault_shown (Execute action skip answer) = None
fault_shown (Wait name answer) = None
fault_shown (NextOperation answer) = None

-- the exchange reads blobs
abbrev pub IsRead : Exchange → Type 0
IsRead (Read digests answer) = Unit {0}
IsRead (ReadStream digest answer) = Unit {0}
IsRead (Capabilities answer) = ⊥
IsRead (GetResult action answer) = ⊥
IsRead (FindMissing digests answer) = ⊥
IsRead (Update blobs answer) = ⊥
IsRead (WriteStream digest bytes answer) = ⊥
IsRead (Execute action skip answer) = ⊥
IsRead (Wait name answer) = ⊥
IsRead (NextOperation answer) = ⊥

-- ---- a whole fetch

-- Blobs alone were read. Those that were given are these, each once and in this order, with these texts.
pub record IsFetched (digests : List Digest) (texts : List (List ℕ)) (part : List Exchange) : Type 0 where
  pub reads : AllByRecursion IsRead part
  pub given : flat_map digests_given part ≡ digests
  pub texts_are : flat_map texts_given part ≡ texts

-- the last exchange shows this fault
pub record EndsIn (fault : BlobFault) (part : List Exchange) : Type 0 where
  pub front : List Exchange
  pub last : Exchange
  pub part_is : part ≡ front ++ last ∷ []
  pub shown : fault_shown last ≡ Some fault

abbrev pub IsShown : BlobFault → List Exchange → Type 0
IsShown (faults.Call fault) part = EndsIn (faults.Call fault) part
IsShown (faults.Missing digest) part = EndsIn (faults.Missing digest) part
IsShown (faults.Refused digest code) part = EndsIn (faults.Refused digest code) part
IsShown (faults.BadBlob expected got) part = Unit {0}
IsShown (faults.InputChanged input) part = Unit {0}
IsShown (faults.SourceFault path) part = Unit {0}
IsShown faults.NoMemory part = Unit {0}

-- Blobs alone were read, and a front of these was given. A fault of a call is that of the last exchange.
pub record IsFailedFetch (digests : List Digest) (fault : BlobFault) (part : List Exchange) : Type 0 where
  pub reads : AllByRecursion IsRead part
  pub rest : List Digest
  pub front : flat_map digests_given part ++ rest ≡ digests
  pub shown : IsShown fault part

-- the exchanges of a fetch of these blobs that was answered so
abbrev pub IsFetch : List Digest → Result (List (List ℕ)) BlobFault → List Exchange → Type 0
IsFetch digests (Ok texts) part = IsFetched digests texts part
IsFetch digests (Err fault) part = IsFailedFetch digests fault part

-- ---- amid a fetch

-- These texts were fetched, of all blobs but the rest.
pub record IsFetching {C W : Type 0} (w : world.Ghosts W) (c : callers.Ghosts C W) (old now : C) (all rest : List Digest) (texts : List (List ℕ)) : Type 0 where
  pub hashed : map digest_of texts ++ rest ≡ all
  pub honest : c.genuine old → texts ++ map w.blob rest ≡ map w.blob all
  pub exchanged : HasExchanged c old now (IsFetched (map digest_of texts) texts)

-- the exchanges of one part of it, which a farm without batches answers with nothing
abbrev pub IsPart : List Digest → Result (Option (List (List ℕ))) BlobFault → List Exchange → Type 0
IsPart digests (Ok (Some texts)) part = IsFetched digests texts part
IsPart digests (Ok None) part = IsFetched [] [] part
IsPart digests (Err fault) part = IsFailedFetch digests fault part
