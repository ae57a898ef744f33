-- What a server can do (remote_execution.proto, GetCapabilities).
use Rattle.std.specs.Prelude.{ℕ, ◌==◌, List, ◌++◌, Result, Ok, if◌then◌else◌}
use Rattle.rx_base.specs.Results.{◌>>=◌}
use Rattle.rx_wire.specs.Values.{Field}
use Rattle.rx_codec.specs.Contents.{int64_in, int64_put, joined_in, one_in, one_put, text_in}
use Rattle.rx_codec.specs.Contents.{text_put}
use Rattle.rx_codec.specs.FieldBytes.{contents, numbered}
use Rattle.rx_codec.specs.Parts.{Part, anything, message, text}
use Rattle.rx_codec.specs.declared.faults.MessageFault.{MessageFault}
use Rattle.rx_exec_messages.specs.Versions.{version_fields, version_from, version_parts}
use Rattle.rx_exec_messages.specs.declared.capabilities.CacheCapabilities.{CacheCapabilities}
use Rattle.rx_exec_messages.specs.declared.capabilities.GetCapabilitiesRequest.{GetCapabilitiesRequest}
use Rattle.rx_exec_messages.specs.declared.capabilities.ServerCapabilities.{ServerCapabilities}

-- ---- CacheCapabilities: max_batch_total_size_bytes 4

abbrev pub cache_capabilities_parts : ℕ → Part
cache_capabilities_parts number = anything

unfoldable pub cache_capabilities_fields : CacheCapabilities → List Field
cache_capabilities_fields x = numbered 4 (int64_put x.max_batch_total_size_bytes)

unfoldable pub cache_capabilities_from : List Field → Result CacheCapabilities MessageFault
cache_capabilities_from fields =
    Ok (record { max_batch_total_size_bytes = int64_in (contents 4 fields) })

abbrev pub cache_capabilities_is_readable : CacheCapabilities → Type 0
cache_capabilities_is_readable x = Unit {0}

-- ---- GetCapabilitiesRequest: instance_name 1

abbrev pub get_capabilities_request_parts : ℕ → Part
get_capabilities_request_parts number = if number == 1 then text else anything

unfoldable pub get_capabilities_request_fields : GetCapabilitiesRequest → List Field
get_capabilities_request_fields x = numbered 1 (text_put x.instance_name)

unfoldable pub get_capabilities_request_from : List Field → Result GetCapabilitiesRequest MessageFault
get_capabilities_request_from fields = Ok (record { instance_name = text_in (contents 1 fields) })

abbrev pub get_capabilities_request_is_readable : GetCapabilitiesRequest → Type 0
get_capabilities_request_is_readable x = Unit {0}

-- ---- ServerCapabilities: cache_capabilities 1, execution_capabilities 2, low_api_version 4,
-- high_api_version 5

abbrev pub server_capabilities_parts : ℕ → Part
server_capabilities_parts number =
    if number == 1 then message cache_capabilities_parts
    else if number == 4 then message version_parts
    else if number == 5 then message version_parts
    else anything

unfoldable pub server_capabilities_fields : ServerCapabilities → List Field
server_capabilities_fields x =
    numbered 1 (one_put cache_capabilities_fields x.cache_capabilities)
    ++ numbered 2 (text_put x.execution_capabilities)
    ++ numbered 4 (one_put version_fields x.low_api_version)
    ++ numbered 5 (one_put version_fields x.high_api_version)

unfoldable pub server_capabilities_from : List Field → Result ServerCapabilities MessageFault
server_capabilities_from fields = do
  cache_capabilities ← one_in cache_capabilities_from (contents 1 fields)
  low_api_version ← one_in version_from (contents 4 fields)
  high_api_version ← one_in version_from (contents 5 fields)
  Ok (record {
    cache_capabilities = cache_capabilities;
    execution_capabilities = joined_in (contents 2 fields);
    low_api_version = low_api_version;
    high_api_version = high_api_version;
  })

abbrev pub server_capabilities_is_readable : ServerCapabilities → Type 0
server_capabilities_is_readable x = Unit {0}
