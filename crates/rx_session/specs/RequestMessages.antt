-- The message of a request, and which requests are read again as they were written.
use Rattle.std.specs.Prelude.{◌≡◌, ℕ, List, None}
use Rattle.rx_codec.specs.Contents.{number_of_truth}
use Rattle.rx_codec.specs.FieldBytes.{fields_bytes}
use Rattle.rx_world.specs.declared.commands.Kind.{Kind}
use Rattle.rx_world.specs.declared.commands.Kind.TheVariants as kinds
use Rattle.rx_world.specs.declared.commands.Strategy.{Strategy}
use Rattle.rx_world.specs.declared.commands.Strategy.TheVariants as strategies
use Rattle.rx_session.specs.declared.raw_request.RawRequest.{RawRequest}
use Rattle.rx_session.specs.declared.requests.Request.{Request}
use Rattle.rx_session.specs.Messages.{raw_request_fields}
use Rattle.rx_session.specs.Rules.{bad_field}

abbrev pub strategy_number : Strategy → ℕ
strategy_number strategies.Local = 1
strategy_number strategies.Remote = 2
strategy_number strategies.RemoteLocalFallback = 3
strategy_number strategies.Racing = 4

abbrev pub request_kind_number : Kind → ℕ
request_kind_number kinds.Tool = 1
request_kind_number kinds.Compile = 2

-- the message of a request, of version 1
abbrev pub request_message : Request → RawRequest
request_message request = record {
  version = 1;
  root = request.root;
  words = request.words;
  environment = request.environment;
  working_directory = request.working_directory;
  strategy = strategy_number request.strategy;
  kind = request_kind_number request.kind;
  inputs = request.inputs;
  toolchain_inputs = request.toolchain_inputs;
  outputs = request.outputs;
  platform = request.platform;
  accept_cached = number_of_truth request.accept_cached;
  watch = number_of_truth request.watch;
  timeout_seconds = request.timeout_seconds;
  in_place = number_of_truth request.in_place;
}

-- the payload of a request: the fields of its message in the order of their numbers, defaults left out
unfoldable pub request_payload : Request → List ℕ
request_payload request = fields_bytes (raw_request_fields (request_message request))

-- A proxy that serves the root takes the request: its root is that one, and each field meets its rule.
pub record IsServed (root : List ℕ) (request : Request) : Type 0 where
  pub same_root : request.root ≡ root
  pub rules : bad_field (request_message request) ≡ None
