-- What an answer on a batch of blobs says of each of them (remote_execution.proto, FindMissingBlobs, BatchUpdateBlobs,
-- BatchReadBlobs).
use Rattle.std.specs.Prelude.{ℕ, ℤ, pos, negsuc, Bool, not, ◌==◌, List, [], filter, is_some, Option, None, Some, Result, Ok, Err, if◌then◌else◌}
use Rattle.std.specs.List.{list_all, list_any}
use Rattle.std.specs.Map.{keys_of, lookup}
use Rattle.std.specs.Ordering.{is_eq}
use Rattle.rx_base.specs.Digests.{by_digest}
use Rattle.rx_base.specs.declared.digests.Digest.{Digest}
use Rattle.rx_messages.specs.declared.batch_reads.BlobRead.{BlobRead}
use Rattle.rx_messages.specs.declared.batch_updates.BlobUpdated.{BlobUpdated}
use Rattle.rx_messages.specs.declared.statuses.Status.{Status}
use Rattle.rx_world.specs.declared.call_faults.CallFault.{CallFault}
use Rattle.rx_world.specs.declared.call_faults.CallFault.TheVariants.{BadMessage, BlobRefused}
use Rattle.rx_grpc.specs.declared.blob_items.Given.{Given}
use Rattle.rx_grpc.specs.Each.{each}

-- ---- digests

abbrev pub is_same : Digest → Digest → Bool
is_same digest x = is_eq (by_digest digest x)

abbrev pub has : List Digest → Digest → Bool
has digests digest = list_any (is_same digest) digests

-- Those that were asked for and are lacking, in the order asked. All that are lacking were asked for.
unfoldable pub missing_of : List Digest → List Digest → Result (List Digest) CallFault
missing_of asked lacking = if list_all (has asked) lacking then Ok (filter (has lacking) asked) else Err (BadMessage 0)

-- ---- items

-- a status that isn't told is success, and a code that is negative is UNKNOWN (google/rpc/code.proto)
abbrev pub code_by : ℤ → ℕ
code_by (pos code) = code
code_by (negsuc n) = 2

abbrev pub code_of : Option Status → ℕ
code_of None = 0
code_of (Some status) = code_by status.code

-- an item is of a digest
abbrev pub item_for : Option Digest → Given → Result (Digest × Given) CallFault
item_for None given = Err (BadMessage 0)
item_for (Some digest) given = Ok (digest, given)

abbrev pub item_updated : BlobUpdated → Result (Digest × Given) CallFault
item_updated x = item_for x.digest (record { code = code_of x.status; body = [] })

abbrev pub item_read : BlobRead → Result (Digest × Given) CallFault
item_read x = item_for x.digest (record { code = code_of x.status; body = x.body })

-- ---- what each digest is given

-- of several items for one digest, the first
abbrev pub first_for : List (Digest × Given) → Digest → Option Given
first_for items digest = lookup (is_same digest) items

abbrev pub text_by : Digest → Option Given → Result (List ℕ) CallFault
text_by digest None = Err (BadMessage 0)
text_by digest (Some given) = if given.code == 0 then Ok given.body else Err (BlobRefused digest given.code)

abbrev pub texts_by : List Digest → List (Digest × Given) → Result (List (List ℕ)) CallFault
texts_by asked items = each (λ digest. text_by digest (first_for items digest)) asked

-- Each item was asked for, and each digest that was asked for has one. Then the first one of a status other than 0 counts.
unfoldable pub texts_of : List Digest → List (Digest × Given) → Result (List (List ℕ)) CallFault
texts_of asked items =
    if not (list_all (has asked) (keys_of items)) then Err (BadMessage 0)
    else if not (list_all (λ digest. is_some (first_for items digest)) asked) then Err (BadMessage 0)
    else texts_by asked items
