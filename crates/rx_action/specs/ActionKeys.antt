-- The Action message of a command and an input root, and the key that its digest is (remote_execution.proto, Action).
use Rattle.std.specs.Prelude.{ℕ, pos, false, ◌==◌, List, [], Option, Some, None, Result, Ok, if◌then◌else◌}
use Rattle.rx_base.specs.Digests.{digest_of}
use Rattle.rx_base.specs.Results.{◌>>=◌}
use Rattle.rx_base.specs.declared.digests.Digest.{Digest}
use Rattle.rx_messages.specs.Actions.{action_fields, action_from, action_parts}
use Rattle.rx_codec.specs.Decoding.{any_form, decoded}
use Rattle.rx_codec.specs.FieldBytes.{fields_bytes}
use Rattle.rx_messages.specs.declared.actions.Action.{Action}
use Rattle.rx_messages.specs.declared.actions.Duration.{Duration}
use Rattle.rx_codec.specs.declared.faults.MessageFault.{MessageFault}
use Rattle.rx_world.specs.declared.commands.Command.{Command}
use Rattle.rx_world.specs.declared.versions.Dialect.{Dialect}
use Rattle.rx_action.specs.Commands.{command_bytes, platform_of}
use Rattle.rx_action.specs.OutputPaths.{checked, misplaced}
use Rattle.rx_action.specs.declared.action_fault.ActionFault.{ActionFault}
use Rattle.rx_action.specs.declared.action_keys.ActionKey.{ActionKey}

-- a timeout, where there is one
abbrev pub timeout_of : ℕ → Option Duration
timeout_of seconds = if seconds == 0 then None else Some (record { seconds = pos seconds })

-- The result may always be cached, and there is no salt.
abbrev pub action_message : Command → Digest → Dialect → Action
action_message command root dialect = record {
  command_digest = Some (digest_of (command_bytes command dialect));
  input_root_digest = Some root;
  timeout = timeout_of command.timeout_seconds;
  do_not_cache = false;
  salt = [];
  platform = platform_of command.platform;
}

-- the Action that some bytes are
abbrev pub read_action : List ℕ → Result Action MessageFault
read_action bytes = decoded action_parts action_from any_form bytes

abbrev pub action_bytes : Command → Digest → Dialect → List ℕ
action_bytes command root dialect = fields_bytes (action_fields (action_message command root dialect))

-- both messages with their digests
abbrev pub key_of : Command → Digest → Dialect → ActionKey
key_of command root dialect = record {
  digest = digest_of (action_bytes command root dialect);
  command_digest = digest_of (command_bytes command dialect);
  command_blob = command_bytes command dialect;
  action_blob = action_bytes command root dialect;
}

-- First an output that isn't below the working directory is refused.
unfoldable pub action_of : Command → Digest → Dialect → Result ActionKey ActionFault
action_of command root dialect = do
  _ ← checked (misplaced command.working_directory command.outputs)
  Ok (key_of command root dialect)
