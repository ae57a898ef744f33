-- What a farm's client asks: the method, and the messages that are sent to it (remote_execution.proto, bytestream.proto).
use Rattle.std.specs.Prelude.{◌≡◌, ℕ, pos, Bool, true, List, [], ◌∷◌, length, map, Some}
use Rattle.rx_base.specs.declared.digests.Digest.{Digest}
use Rattle.rx_codec.specs.FieldBytes.{fields_bytes}
use Rattle.rx_messages.specs.Batches.{batch_read_blobs_request_fields, batch_update_blobs_request_fields}
use Rattle.rx_messages.specs.Blobs.{find_missing_blobs_request_fields}
use Rattle.rx_messages.specs.declared.batch_reads.BatchReadBlobsRequest.{BatchReadBlobsRequest}
use Rattle.rx_messages.specs.declared.batch_updates.BatchUpdateBlobsRequest.{BatchUpdateBlobsRequest}
use Rattle.rx_messages.specs.declared.batch_updates.BlobUpdate.{BlobUpdate}
use Rattle.rx_messages.specs.declared.blobs.FindMissingBlobsRequest.{FindMissingBlobsRequest}
use Rattle.rx_exec_messages.specs.Capabilities.{get_capabilities_request_fields}
use Rattle.rx_exec_messages.specs.Executions.{execute_request_fields, get_action_result_request_fields, wait_execution_request_fields}
use Rattle.rx_exec_messages.specs.Streams.{read_request_fields}
use Rattle.rx_exec_messages.specs.declared.capabilities.GetCapabilitiesRequest.{GetCapabilitiesRequest}
use Rattle.rx_exec_messages.specs.declared.exchanges.NamedBlob.{NamedBlob}
use Rattle.rx_exec_messages.specs.declared.executions.ExecuteRequest.{ExecuteRequest}
use Rattle.rx_exec_messages.specs.declared.executions.GetActionResultRequest.{GetActionResultRequest}
use Rattle.rx_exec_messages.specs.declared.executions.WaitExecutionRequest.{WaitExecutionRequest}
use Rattle.rx_exec_messages.specs.declared.streams.ReadRequest.{ReadRequest}
use Rattle.rx_grpc.specs.declared.caller.Begun.{Begun}
use Rattle.rx_grpc.specs.declared.caller.Begun.TheVariants.{Executed, Waited}
use Rattle.rx_grpc.specs.declared.method.Method.{Method}
use Rattle.rx_grpc.specs.declared.method.Method.TheVariants as Methods
use Rattle.rx_grpc.specs.Methods.{path_of}
use Rattle.rx_grpc.specs.Resources.{read_name}
use Rattle.rx_grpc.specs.Writes.{offsets_of, piece_message}

pub record Asked : Type 0 where
  pub path : List ℕ
  pub messages : List (List ℕ)

abbrev pub one : Method → List ℕ → Asked
one method message = record { path = path_of method; messages = message ∷ [] }

-- ---- the questions of one message

abbrev pub capabilities_question : List ℕ → GetCapabilitiesRequest
capabilities_question instance = record { instance_name = instance }

abbrev pub result_question : List ℕ → Digest → GetActionResultRequest
result_question instance action = record { instance_name = instance; action_digest = Some action; inline_stdout = true; inline_stderr = true; inline_output_files = [] }

abbrev pub missing_question : List ℕ → List Digest → FindMissingBlobsRequest
missing_question instance digests = record { instance_name = instance; blob_digests = digests }

abbrev pub update_of : NamedBlob → BlobUpdate
update_of blob = record { digest = Some blob.digest; body = blob.bytes }

abbrev pub update_question : List ℕ → List NamedBlob → BatchUpdateBlobsRequest
update_question instance blobs = record { instance_name = instance; requests = map update_of blobs }

abbrev pub read_question : List ℕ → List Digest → BatchReadBlobsRequest
read_question instance digests = record { instance_name = instance; digests = digests }

abbrev pub execute_question : List ℕ → Digest → Bool → ExecuteRequest
execute_question instance action skip_cache = record { instance_name = instance; skip_cache_lookup = skip_cache; action_digest = Some action }

abbrev pub wait_question : List ℕ → WaitExecutionRequest
wait_question name = record { name = name }

-- from the first byte to the last
abbrev pub blob_question : List ℕ → Digest → ReadRequest
blob_question instance digest = record { resource_name = read_name instance digest; read_offset = pos 0; read_limit = pos 0 }

-- ---- what is asked

abbrev pub asks_capabilities : List ℕ → Asked
asks_capabilities instance = one Methods.GetCapabilities (fields_bytes (get_capabilities_request_fields (capabilities_question instance)))

abbrev pub asks_result : List ℕ → Digest → Asked
asks_result instance action = one Methods.GetActionResult (fields_bytes (get_action_result_request_fields (result_question instance action)))

abbrev pub asks_missing : List ℕ → List Digest → Asked
asks_missing instance digests = one Methods.FindMissingBlobs (fields_bytes (find_missing_blobs_request_fields (missing_question instance digests)))

abbrev pub asks_update : List ℕ → List NamedBlob → Asked
asks_update instance blobs = one Methods.BatchUpdateBlobs (fields_bytes (batch_update_blobs_request_fields (update_question instance blobs)))

abbrev pub asks_read : List ℕ → List Digest → Asked
asks_read instance digests = one Methods.BatchReadBlobs (fields_bytes (batch_read_blobs_request_fields (read_question instance digests)))

abbrev pub asks_execute : List ℕ → Digest → Bool → Asked
asks_execute instance action skip_cache = one Methods.Execute (fields_bytes (execute_request_fields (execute_question instance action skip_cache)))

abbrev pub asks_wait : List ℕ → Asked
asks_wait name = one Methods.WaitExecution (fields_bytes (wait_execution_request_fields (wait_question name)))

abbrev pub asks_blob : List ℕ → Digest → Asked
asks_blob instance digest = one Methods.ReadStream (fields_bytes (read_request_fields (blob_question instance digest)))

-- a blob is written piece by piece, under this name
abbrev pub asks_write : List ℕ → List ℕ → Asked
asks_write name bytes = record { path = path_of Methods.WriteStream; messages = map (piece_message name bytes) (offsets_of (length bytes)) }

-- what was begun was asked: the execution of an action, or the states of the execution of a name
abbrev pub AsksBegun : List ℕ → Begun → Asked → Type 0
AsksBegun instance (Executed action) asked = (skip_cache : Bool) × (asked ≡ asks_execute instance action skip_cache)
AsksBegun instance (Waited name) asked = asked ≡ asks_wait name
