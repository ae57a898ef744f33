-- Which blobs the store lacks (remote_execution.proto, FindMissingBlobs).
use Rattle.std.specs.Prelude.{ℕ, ◌==◌, List, ◌++◌, Result, Ok, if◌then◌else◌}
use Rattle.std.specs.List.{AllByRecursion}
use Rattle.rx_base.specs.Results.{◌>>=◌}
use Rattle.rx_wire.specs.Values.{Field}
use Rattle.rx_codec.specs.Contents.{each_in, each_put, text_in, text_put}
use Rattle.rx_codec.specs.FieldBytes.{contents, numbered}
use Rattle.rx_codec.specs.Parts.{Part, anything, message, text}
use Rattle.rx_codec.specs.declared.faults.MessageFault.{MessageFault}
use Rattle.rx_codec.specs.Digests.{digest_fields, digest_from, digest_is_readable, digest_parts}
use Rattle.rx_messages.specs.declared.blobs.FindMissingBlobsRequest.{FindMissingBlobsRequest}
use Rattle.rx_messages.specs.declared.blobs.FindMissingBlobsResponse.{FindMissingBlobsResponse}

-- ---- FindMissingBlobsRequest: instance_name 1, blob_digests 2

abbrev pub find_missing_blobs_request_parts : ℕ → Part
find_missing_blobs_request_parts number = if number == 1 then text else if number == 2 then message digest_parts else anything

unfoldable pub find_missing_blobs_request_fields : FindMissingBlobsRequest → List Field
find_missing_blobs_request_fields x = numbered 1 (text_put x.instance_name) ++ numbered 2 (each_put digest_fields x.blob_digests)

unfoldable pub find_missing_blobs_request_from : List Field → Result FindMissingBlobsRequest MessageFault
find_missing_blobs_request_from fields = do
  blob_digests ← each_in digest_from (contents 2 fields)
  Ok (record { instance_name = text_in (contents 1 fields); blob_digests = blob_digests })

-- each size is below 2^63
abbrev pub find_missing_blobs_request_is_readable : FindMissingBlobsRequest → Type 0
find_missing_blobs_request_is_readable x = AllByRecursion digest_is_readable x.blob_digests

-- ---- FindMissingBlobsResponse: missing_blob_digests 2

abbrev pub find_missing_blobs_response_parts : ℕ → Part
find_missing_blobs_response_parts number = if number == 2 then message digest_parts else anything

unfoldable pub find_missing_blobs_response_fields : FindMissingBlobsResponse → List Field
find_missing_blobs_response_fields x = numbered 2 (each_put digest_fields x.missing_blob_digests)

unfoldable pub find_missing_blobs_response_from : List Field → Result FindMissingBlobsResponse MessageFault
find_missing_blobs_response_from fields = do
  missing_blob_digests ← each_in digest_from (contents 2 fields)
  Ok (record { missing_blob_digests = missing_blob_digests })

-- each size is below 2^63
abbrev pub find_missing_blobs_response_is_readable : FindMissingBlobsResponse → Type 0
find_missing_blobs_response_is_readable x = AllByRecursion digest_is_readable x.missing_blob_digests
