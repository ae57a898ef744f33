-- Many small blobs in one call (remote_execution.proto, BatchUpdateBlobs, BatchReadBlobs).
use Rattle.std.specs.Prelude.{ℕ, ◌==◌, List, ◌++◌, Result, Ok, IfSome, if◌then◌else◌}
use Rattle.std.specs.List.{AllByRecursion}
use Rattle.rx_base.specs.Results.{◌>>=◌}
use Rattle.rx_wire.specs.Values.{Field}
use Rattle.rx_codec.specs.Contents.{each_in, each_put, one_in, one_put, text_in, text_put}
use Rattle.rx_codec.specs.FieldBytes.{contents, numbered}
use Rattle.rx_codec.specs.Parts.{Part, anything, message, text}
use Rattle.rx_codec.specs.declared.faults.MessageFault.{MessageFault}
use Rattle.rx_codec.specs.Digests.{digest_fields, digest_from, digest_is_readable, digest_parts}
use Rattle.rx_messages.specs.Statuses.{status_fields, status_from, status_parts}
use Rattle.rx_messages.specs.declared.batch_updates.BlobUpdate.{BlobUpdate}
use Rattle.rx_messages.specs.declared.batch_updates.BatchUpdateBlobsRequest.{BatchUpdateBlobsRequest}
use Rattle.rx_messages.specs.declared.batch_updates.BlobUpdated.{BlobUpdated}
use Rattle.rx_messages.specs.declared.batch_updates.BatchUpdateBlobsResponse.{BatchUpdateBlobsResponse}
use Rattle.rx_messages.specs.declared.batch_reads.BatchReadBlobsRequest.{BatchReadBlobsRequest}
use Rattle.rx_messages.specs.declared.batch_reads.BlobRead.{BlobRead}
use Rattle.rx_messages.specs.declared.batch_reads.BatchReadBlobsResponse.{BatchReadBlobsResponse}

-- ---- BlobUpdate: digest 1, body 2

abbrev pub blob_update_parts : ℕ → Part
blob_update_parts number = if number == 1 then message digest_parts else anything

unfoldable pub blob_update_fields : BlobUpdate → List Field
blob_update_fields x = numbered 1 (one_put digest_fields x.digest) ++ numbered 2 (text_put x.body)

unfoldable pub blob_update_from : List Field → Result BlobUpdate MessageFault
blob_update_from fields = do
  digest ← one_in digest_from (contents 1 fields)
  Ok (record { digest = digest; body = text_in (contents 2 fields) })

-- each size is below 2^63
abbrev pub blob_update_is_readable : BlobUpdate → Type 0
blob_update_is_readable x = IfSome x.digest digest_is_readable

-- ---- BatchUpdateBlobsRequest: instance_name 1, requests 2

abbrev pub batch_update_blobs_request_parts : ℕ → Part
batch_update_blobs_request_parts number = if number == 1 then text else if number == 2 then message blob_update_parts else anything

unfoldable pub batch_update_blobs_request_fields : BatchUpdateBlobsRequest → List Field
batch_update_blobs_request_fields x = numbered 1 (text_put x.instance_name) ++ numbered 2 (each_put blob_update_fields x.requests)

unfoldable pub batch_update_blobs_request_from : List Field → Result BatchUpdateBlobsRequest MessageFault
batch_update_blobs_request_from fields = do
  requests ← each_in blob_update_from (contents 2 fields)
  Ok (record { instance_name = text_in (contents 1 fields); requests = requests })

-- each size is below 2^63
abbrev pub batch_update_blobs_request_is_readable : BatchUpdateBlobsRequest → Type 0
batch_update_blobs_request_is_readable x = AllByRecursion blob_update_is_readable x.requests

-- ---- BlobUpdated: digest 1, status 2

abbrev pub blob_updated_parts : ℕ → Part
blob_updated_parts number = if number == 1 then message digest_parts else if number == 2 then message status_parts else anything

unfoldable pub blob_updated_fields : BlobUpdated → List Field
blob_updated_fields x = numbered 1 (one_put digest_fields x.digest) ++ numbered 2 (one_put status_fields x.status)

unfoldable pub blob_updated_from : List Field → Result BlobUpdated MessageFault
blob_updated_from fields = do
  digest ← one_in digest_from (contents 1 fields)
  status ← one_in status_from (contents 2 fields)
  Ok (record { digest = digest; status = status })

-- each size is below 2^63
abbrev pub blob_updated_is_readable : BlobUpdated → Type 0
blob_updated_is_readable x = IfSome x.digest digest_is_readable

-- ---- BatchUpdateBlobsResponse: responses 1

abbrev pub batch_update_blobs_response_parts : ℕ → Part
batch_update_blobs_response_parts number = if number == 1 then message blob_updated_parts else anything

unfoldable pub batch_update_blobs_response_fields : BatchUpdateBlobsResponse → List Field
batch_update_blobs_response_fields x = numbered 1 (each_put blob_updated_fields x.responses)

unfoldable pub batch_update_blobs_response_from : List Field → Result BatchUpdateBlobsResponse MessageFault
batch_update_blobs_response_from fields = do
  responses ← each_in blob_updated_from (contents 1 fields)
  Ok (record { responses = responses })

-- each size is below 2^63
abbrev pub batch_update_blobs_response_is_readable : BatchUpdateBlobsResponse → Type 0
batch_update_blobs_response_is_readable x = AllByRecursion blob_updated_is_readable x.responses

-- ---- BatchReadBlobsRequest: instance_name 1, digests 2

abbrev pub batch_read_blobs_request_parts : ℕ → Part
batch_read_blobs_request_parts number = if number == 1 then text else if number == 2 then message digest_parts else anything

unfoldable pub batch_read_blobs_request_fields : BatchReadBlobsRequest → List Field
batch_read_blobs_request_fields x = numbered 1 (text_put x.instance_name) ++ numbered 2 (each_put digest_fields x.digests)

unfoldable pub batch_read_blobs_request_from : List Field → Result BatchReadBlobsRequest MessageFault
batch_read_blobs_request_from fields = do
  digests ← each_in digest_from (contents 2 fields)
  Ok (record { instance_name = text_in (contents 1 fields); digests = digests })

-- each size is below 2^63
abbrev pub batch_read_blobs_request_is_readable : BatchReadBlobsRequest → Type 0
batch_read_blobs_request_is_readable x = AllByRecursion digest_is_readable x.digests

-- ---- BlobRead: digest 1, body 2, status 3

abbrev pub blob_read_parts : ℕ → Part
blob_read_parts number = if number == 1 then message digest_parts else if number == 3 then message status_parts else anything

unfoldable pub blob_read_fields : BlobRead → List Field
blob_read_fields x =
    numbered 1 (one_put digest_fields x.digest)
    ++ numbered 2 (text_put x.body)
    ++ numbered 3 (one_put status_fields x.status)

unfoldable pub blob_read_from : List Field → Result BlobRead MessageFault
blob_read_from fields = do
  digest ← one_in digest_from (contents 1 fields)
  status ← one_in status_from (contents 3 fields)
  Ok (record { digest = digest; body = text_in (contents 2 fields); status = status })

-- each size is below 2^63
abbrev pub blob_read_is_readable : BlobRead → Type 0
blob_read_is_readable x = IfSome x.digest digest_is_readable

-- ---- BatchReadBlobsResponse: responses 1

abbrev pub batch_read_blobs_response_parts : ℕ → Part
batch_read_blobs_response_parts number = if number == 1 then message blob_read_parts else anything

unfoldable pub batch_read_blobs_response_fields : BatchReadBlobsResponse → List Field
batch_read_blobs_response_fields x = numbered 1 (each_put blob_read_fields x.responses)

unfoldable pub batch_read_blobs_response_from : List Field → Result BatchReadBlobsResponse MessageFault
batch_read_blobs_response_from fields = do
  responses ← each_in blob_read_from (contents 1 fields)
  Ok (record { responses = responses })

-- each size is below 2^63
abbrev pub batch_read_blobs_response_is_readable : BatchReadBlobsResponse → Type 0
batch_read_blobs_response_is_readable x = AllByRecursion blob_read_is_readable x.responses
