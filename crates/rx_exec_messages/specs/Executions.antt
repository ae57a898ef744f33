-- Kept results and executions (remote_execution.proto, GetActionResult, Execute, WaitExecution).
use Rattle.std.specs.Prelude.{ℕ, ◌==◌, List, ◌++◌, Result, Ok, IfSome, if◌then◌else◌}
use Rattle.rx_base.specs.Results.{◌>>=◌}
use Rattle.rx_wire.specs.Values.{Field}
use Rattle.rx_codec.specs.Contents.{one_in, one_put, text_in, text_put, texts_in, texts_put}
use Rattle.rx_codec.specs.Contents.{truth_in, truth_put}
use Rattle.rx_codec.specs.FieldBytes.{contents, numbered}
use Rattle.rx_codec.specs.Parts.{Part, anything, message, text}
use Rattle.rx_codec.specs.declared.faults.MessageFault.{MessageFault}
use Rattle.rx_codec.specs.Digests.{digest_fields, digest_from, digest_is_readable, digest_parts}
use Rattle.rx_messages.specs.Results.{action_result_fields, action_result_from}
use Rattle.rx_messages.specs.Results.{action_result_is_readable, action_result_parts}
use Rattle.rx_messages.specs.Statuses.{status_fields, status_from, status_parts}
use Rattle.rx_exec_messages.specs.declared.executions.GetActionResultRequest.{GetActionResultRequest}
use Rattle.rx_exec_messages.specs.declared.executions.ExecuteRequest.{ExecuteRequest}
use Rattle.rx_exec_messages.specs.declared.executions.ExecuteResponse.{ExecuteResponse}
use Rattle.rx_exec_messages.specs.declared.executions.WaitExecutionRequest.{WaitExecutionRequest}

-- ---- GetActionResultRequest: instance_name 1, action_digest 2, inline_stdout 3, inline_stderr 4,
-- inline_output_files 5

abbrev pub get_action_result_request_parts : ℕ → Part
get_action_result_request_parts number =
    if number == 1 then text
    else if number == 2 then message digest_parts
    else if number == 5 then text
    else anything

unfoldable pub get_action_result_request_fields : GetActionResultRequest → List Field
get_action_result_request_fields x =
    numbered 1 (text_put x.instance_name)
    ++ numbered 2 (one_put digest_fields x.action_digest)
    ++ numbered 3 (truth_put x.inline_stdout)
    ++ numbered 4 (truth_put x.inline_stderr)
    ++ numbered 5 (texts_put x.inline_output_files)

unfoldable pub get_action_result_request_from : List Field → Result GetActionResultRequest MessageFault
get_action_result_request_from fields = do
  action_digest ← one_in digest_from (contents 2 fields)
  Ok (record {
    instance_name = text_in (contents 1 fields);
    action_digest = action_digest;
    inline_stdout = truth_in (contents 3 fields);
    inline_stderr = truth_in (contents 4 fields);
    inline_output_files = texts_in (contents 5 fields);
  })

-- each size is below 2^63
abbrev pub get_action_result_request_is_readable : GetActionResultRequest → Type 0
get_action_result_request_is_readable x = IfSome x.action_digest digest_is_readable

-- ---- ExecuteRequest: instance_name 1, skip_cache_lookup 3, action_digest 6

abbrev pub execute_request_parts : ℕ → Part
execute_request_parts number =
    if number == 1 then text
    else if number == 6 then message digest_parts
    else anything

unfoldable pub execute_request_fields : ExecuteRequest → List Field
execute_request_fields x =
    numbered 1 (text_put x.instance_name)
    ++ numbered 3 (truth_put x.skip_cache_lookup)
    ++ numbered 6 (one_put digest_fields x.action_digest)

unfoldable pub execute_request_from : List Field → Result ExecuteRequest MessageFault
execute_request_from fields = do
  action_digest ← one_in digest_from (contents 6 fields)
  Ok (record {
    instance_name = text_in (contents 1 fields);
    skip_cache_lookup = truth_in (contents 3 fields);
    action_digest = action_digest;
  })

-- each size is below 2^63
abbrev pub execute_request_is_readable : ExecuteRequest → Type 0
execute_request_is_readable x = IfSome x.action_digest digest_is_readable

-- ---- ExecuteResponse: result 1, cached_result 2, status 3, message 5

abbrev pub execute_response_parts : ℕ → Part
execute_response_parts number =
    if number == 1 then message action_result_parts
    else if number == 3 then message status_parts
    else if number == 5 then text
    else anything

unfoldable pub execute_response_fields : ExecuteResponse → List Field
execute_response_fields x =
    numbered 1 (one_put action_result_fields x.result)
    ++ numbered 2 (truth_put x.cached_result)
    ++ numbered 3 (one_put status_fields x.status)
    ++ numbered 5 (text_put x.message)

unfoldable pub execute_response_from : List Field → Result ExecuteResponse MessageFault
execute_response_from fields = do
  result ← one_in action_result_from (contents 1 fields)
  status ← one_in status_from (contents 3 fields)
  Ok (record {
    result = result;
    cached_result = truth_in (contents 2 fields);
    status = status;
    message = text_in (contents 5 fields);
  })

-- each size is below 2^63
abbrev pub execute_response_is_readable : ExecuteResponse → Type 0
execute_response_is_readable x = IfSome x.result action_result_is_readable

-- ---- WaitExecutionRequest: name 1

abbrev pub wait_execution_request_parts : ℕ → Part
wait_execution_request_parts number = if number == 1 then text else anything

unfoldable pub wait_execution_request_fields : WaitExecutionRequest → List Field
wait_execution_request_fields x = numbered 1 (text_put x.name)

unfoldable pub wait_execution_request_from : List Field → Result WaitExecutionRequest MessageFault
wait_execution_request_from fields = Ok (record { name = text_in (contents 1 fields) })

abbrev pub wait_execution_request_is_readable : WaitExecutionRequest → Type 0
wait_execution_request_is_readable x = Unit {0}
