-- What the calls of one message give, by what the channel answered (remote_execution.proto: GetCapabilities, GetActionResult,
-- FindMissingBlobs, BatchUpdateBlobs, BatchReadBlobs).
use Rattle.std.specs.Prelude.{ℕ, ℤ, pos, negsuc, ◌==◌, List, Option, None, Some, Result, Ok, Err, if◌then◌else◌}
use Rattle.std.specs.Option.{option_map}
use Rattle.rx_base.specs.Results.{◌>>=◌}
use Rattle.rx_base.specs.declared.digests.Digest.{Digest}
use Rattle.rx_codec.specs.Decoding.{any_form, decoded}
use Rattle.rx_messages.specs.Batches.{batch_read_blobs_response_from, batch_read_blobs_response_parts}
use Rattle.rx_messages.specs.Batches.{batch_update_blobs_response_from, batch_update_blobs_response_parts}
use Rattle.rx_messages.specs.Blobs.{find_missing_blobs_response_from, find_missing_blobs_response_parts}
use Rattle.rx_messages.specs.Results.{action_result_from, action_result_parts}
use Rattle.rx_messages.specs.declared.results.ActionResult.{ActionResult}
use Rattle.rx_exec_messages.specs.Capabilities.{server_capabilities_from, server_capabilities_parts}
use Rattle.rx_exec_messages.specs.Versions.{sem_ver_of}
use Rattle.rx_exec_messages.specs.declared.answers.Capabilities.{Capabilities}
use Rattle.rx_exec_messages.specs.declared.capabilities.CacheCapabilities.{CacheCapabilities}
use Rattle.rx_exec_messages.specs.declared.capabilities.ServerCapabilities.{ServerCapabilities}
use Rattle.rx_world.specs.declared.call_faults.CallFault.{CallFault}
use Rattle.rx_world.specs.declared.call_faults.CallFault.TheVariants as Faults
use Rattle.rx_grpc.specs.Batches.{item_read, item_updated, missing_of, texts_of}
use Rattle.rx_grpc.specs.Each.{each}
use Rattle.rx_grpc.specs.Replies.{Heard, reply}

-- ---- GetCapabilities

-- a negative limit is none
abbrev pub limit_by : ℤ → ℕ
limit_by (pos n) = n
limit_by (negsuc n) = 0

abbrev pub limit_of : Option CacheCapabilities → ℕ
limit_of None = 0
limit_of (Some cache) = limit_by cache.max_batch_total_size_bytes

abbrev pub capabilities_of : ServerCapabilities → Capabilities
capabilities_of x = record {
  most = limit_of x.cache_capabilities;
  low = option_map sem_ver_of x.low_api_version;
  high = option_map sem_ver_of x.high_api_version;
}

abbrev pub capabilities_by : Heard → Result Capabilities CallFault
capabilities_by heard = do
  x ← reply (decoded server_capabilities_parts server_capabilities_from any_form) heard
  Ok (capabilities_of x)

-- ---- GetActionResult

-- status 5, NOT_FOUND, is no fault: the cache has no result
abbrev pub found_of : Result ActionResult CallFault → Result (Option ActionResult) CallFault
found_of (Ok x) = Ok (Some x)
found_of (Err (Faults.Status code)) = if code == 5 then Ok None else Err (Faults.Status code)
found_of (Err fault) = Err fault

abbrev pub found_by : Heard → Result (Option ActionResult) CallFault
found_by heard = found_of (reply (decoded action_result_parts action_result_from any_form) heard)

-- ---- FindMissingBlobs

abbrev pub missing_by : List Digest → Heard → Result (List Digest) CallFault
missing_by asked heard = do
  x ← reply (decoded find_missing_blobs_response_parts find_missing_blobs_response_from any_form) heard
  missing_of asked x.missing_blob_digests

-- ---- BatchUpdateBlobs

abbrev pub updated_by : List Digest → Heard → Result (Unit {0}) CallFault
updated_by asked heard = do
  x ← reply (decoded batch_update_blobs_response_parts batch_update_blobs_response_from any_form) heard
  items ← each item_updated x.responses
  _ ← texts_of asked items
  Ok tt

-- ---- BatchReadBlobs

abbrev pub read_by : List Digest → Heard → Result (List (List ℕ)) CallFault
read_by asked heard = do
  x ← reply (decoded batch_read_blobs_response_parts batch_read_blobs_response_from any_form) heard
  items ← each item_read x.responses
  texts_of asked items
