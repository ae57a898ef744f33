-- What is run on which tree (remote_execution.proto, Action).
use Rattle.std.specs.Prelude.{ℕ, ◌==◌, List, ◌++◌, Result, Ok, IfSome, if◌then◌else◌}
use Rattle.rx_base.specs.Results.{◌>>=◌}
use Rattle.rx_wire.specs.Values.{Field}
use Rattle.rx_codec.specs.Contents.{int64_in, int64_put, one_in, one_put, text_in, text_put, truth_in, truth_put}
use Rattle.rx_codec.specs.FieldBytes.{contents, numbered}
use Rattle.rx_codec.specs.Parts.{Part, anything, message}
use Rattle.rx_codec.specs.declared.faults.MessageFault.{MessageFault}
use Rattle.rx_messages.specs.Commands.{platform_fields, platform_from, platform_parts}
use Rattle.rx_codec.specs.Digests.{digest_fields, digest_from, digest_is_readable, digest_parts}
use Rattle.rx_messages.specs.declared.actions.Duration.{Duration}
use Rattle.rx_messages.specs.declared.actions.Action.{Action}

-- ---- Duration: seconds 1

abbrev pub duration_parts : ℕ → Part
duration_parts number = anything

unfoldable pub duration_fields : Duration → List Field
duration_fields x = numbered 1 (int64_put x.seconds)

unfoldable pub duration_from : List Field → Result Duration MessageFault
duration_from fields = Ok (record { seconds = int64_in (contents 1 fields) })

abbrev pub duration_is_readable : Duration → Type 0
duration_is_readable x = Unit {0}

-- ---- Action: command_digest 1, input_root_digest 2, timeout 6, do_not_cache 7, salt 9, platform 10

abbrev pub action_parts : ℕ → Part
action_parts number =
    if number == 1 then message digest_parts
    else if number == 2 then message digest_parts
    else if number == 6 then message duration_parts
    else if number == 10 then message platform_parts
    else anything

unfoldable pub action_fields : Action → List Field
action_fields x =
    numbered 1 (one_put digest_fields x.command_digest)
    ++ numbered 2 (one_put digest_fields x.input_root_digest)
    ++ numbered 6 (one_put duration_fields x.timeout)
    ++ numbered 7 (truth_put x.do_not_cache)
    ++ numbered 9 (text_put x.salt)
    ++ numbered 10 (one_put platform_fields x.platform)

unfoldable pub action_from : List Field → Result Action MessageFault
action_from fields = do
  command_digest ← one_in digest_from (contents 1 fields)
  input_root_digest ← one_in digest_from (contents 2 fields)
  timeout ← one_in duration_from (contents 6 fields)
  platform ← one_in platform_from (contents 10 fields)
  Ok (record { command_digest = command_digest; input_root_digest = input_root_digest; timeout = timeout; do_not_cache = truth_in (contents 7 fields); salt = text_in (contents 9 fields); platform = platform })

-- each size is below 2^63
abbrev pub action_is_readable : Action → Type 0
action_is_readable x = IfSome x.command_digest digest_is_readable × IfSome x.input_root_digest digest_is_readable
