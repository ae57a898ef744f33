-- What a state of an execution says (google/longrunning/operations.proto, Operation; remote_execution.proto, Execute).
use Rattle.std.specs.Prelude.{ℕ, ◌==◌, List, [], Bool, Option, None, Some, Result, Ok, Err, if◌then◌else◌, codes, nat_eq, false}
use Rattle.std.specs.List.{ends_with}
use Rattle.rx_base.specs.Results.{◌>>=◌}
use Rattle.rx_codec.specs.Decoding.{any_form, decoded}
use Rattle.rx_messages.specs.declared.statuses.Any.{Any}
use Rattle.rx_messages.specs.declared.statuses.Status.{Status}
use Rattle.rx_exec_messages.specs.Executions.{execute_response_from, execute_response_parts}
use Rattle.rx_exec_messages.specs.Operations.{operation_message_from, operation_message_parts}
use Rattle.rx_exec_messages.specs.declared.answers.Operation.{Operation}
use Rattle.rx_exec_messages.specs.declared.executions.ExecuteResponse.{ExecuteResponse}
use Rattle.rx_exec_messages.specs.declared.operations.OperationMessage.{OperationMessage}
use Rattle.rx_exec_messages.specs.declared.state_faults.StateFault.{StateFault}
use Rattle.rx_exec_messages.specs.declared.state_faults.StateFault.TheVariants.{Over, Stream}
use Rattle.rx_world.specs.declared.call_faults.CallFault.{CallFault}
use Rattle.rx_world.specs.declared.call_faults.CallFault.TheVariants.{BadMessage}
use Rattle.rx_grpc.specs.Batches.{code_of}
use Rattle.rx_grpc.specs.Replies.{read}

-- The type of an Any is what follows the last `/` of its URL (google/protobuf/any.proto). It is an ExecuteResponse where the URL ends so,
-- since this name has no `/`.
abbrev pub response_ending : List ℕ
response_ending = codes "/build.bazel.remote.execution.v2.ExecuteResponse"

abbrev pub is_response : List ℕ → Bool
is_response url = ends_with nat_eq url response_ending

-- a fault of the bytes is one of the stream
abbrev pub by_stream : {A : Type 0} → Result A CallFault → Result A StateFault
by_stream (Ok x) = Ok x
by_stream (Err fault) = Err (Stream fault)

-- a status other than 0 is a fault of the execution, which is over
abbrev pub unless_failed : {A : Type 0} → Option Status → A → Result A StateFault
unless_failed status x = if code_of status == 0 then Ok x else Err (Over (code_of status))

-- an operation that is done without a response has no result
abbrev pub no_response : ExecuteResponse
no_response = record { result = None; cached_result = false; status = None; message = [] }

abbrev pub response_of : Any → Result ExecuteResponse CallFault
response_of any =
    if is_response any.type_url then read (decoded execute_response_parts execute_response_from any_form any.value)
    else Err (BadMessage 0)

abbrev pub response_by : Option Any → Result ExecuteResponse StateFault
response_by None = Ok no_response
response_by (Some any) = do
  response ← by_stream (response_of any)
  unless_failed response.status response

-- how an execution ended: its error comes first, and then the status of its response
abbrev pub end_of : OperationMessage → Result ExecuteResponse StateFault
end_of x = do
  response ← unless_failed x.error x.response
  response_by response

unfoldable pub operation_of : OperationMessage → Result Operation StateFault
operation_of x =
    if x.done then end_of x >>= (λ response. Ok (record { name = x.name; done = Some response }))
    else Ok (record { name = x.name; done = None })

-- the state that a message tells
abbrev pub operation_by : List ℕ → Result Operation StateFault
operation_by message = do
  x ← by_stream (read (decoded operation_message_parts operation_message_from any_form message))
  operation_of x
