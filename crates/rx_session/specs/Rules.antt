-- Each field's own rule, and which request a message is.
use Rattle.std.specs.Prelude.{ℕ, ◌==◌, ◌&&◌, Bool, true, false, not, nat_le, List, [], ◌∷◌, length, map, Option, None, Some, Result, Ok, Err, is_ok, if◌then◌else◌}
use Rattle.std.specs.List.{list_any, list_all}
use Rattle.std.specs.Result.{result_unwrap_or}
use Rattle.std.specs.Str.{bytes_eq}
use Rattle.rx_base.specs.Paths.{read_of, is_below}
use Rattle.rx_base.specs.Results.{◌>>=◌}
use Rattle.rx_world.specs.declared.commands.Kind.{Kind}
use Rattle.rx_world.specs.declared.commands.Kind.TheVariants as kinds
use Rattle.rx_world.specs.declared.commands.Pair.{Pair}
use Rattle.rx_world.specs.declared.commands.Strategy.{Strategy}
use Rattle.rx_world.specs.declared.commands.Strategy.TheVariants as strategies
use Rattle.rx_session.specs.declared.bad.Bad.{Bad}
use Rattle.rx_session.specs.declared.bad.BadReason.{BadReason}
use Rattle.rx_session.specs.declared.bad.BadReason.TheVariants.{UnknownVersion, WrongRoot, BadField}
use Rattle.rx_session.specs.declared.raw_request.RawRequest.{RawRequest}
use Rattle.rx_session.specs.declared.requests.Request.{Request}
use Rattle.rx_session.specs.Bad.{bad}

-- ---- texts and paths

-- the byte isn't in the text
abbrev pub lacks : ℕ → List ℕ → Bool
lacks byte text = not (list_any (λ b. b == byte) text)

abbrev pub is_path : List ℕ → Bool
is_path text = is_ok (read_of text)

-- the path that a text names; one that names none stands for the root
abbrev pub path_in : List ℕ → List ℕ
path_in text = result_unwrap_or (read_of text) []

abbrev pub paths_in : List (List ℕ) → List (List ℕ)
paths_in texts = map path_in texts

-- no two of the texts are equal: none stands among those behind it
abbrev pub are_distinct : List (List ℕ) → Bool
are_distinct [] = true
are_distinct (text ∷ texts) = not (list_any (bytes_eq text) texts) && are_distinct texts

-- ---- the fields' rules

-- there is a first word, and it isn't empty
abbrev pub first_holds : List (List ℕ) → Bool
first_holds [] = false
first_holds (word ∷ words) = not (length word == 0)

-- 3: one word at least, the first not empty
unfoldable pub words_hold : List (List ℕ) → Bool
words_hold words = first_holds words && list_all (lacks 0) words

abbrev pub names_of : List Pair → List (List ℕ)
names_of pairs = map (λ pair. pair.name) pairs

-- 11: any texts
unfoldable pub property_holds : Pair → Bool
property_holds pair = lacks 0 pair.name && lacks 0 pair.value

-- the name of an environment variable, with its value
unfoldable pub variable_holds : Pair → Bool
variable_holds pair = not (length pair.name == 0) && (lacks 61 pair.name && property_holds pair)

-- 4: distinct names, none empty or with `=`
unfoldable pub environment_holds : List Pair → Bool
environment_holds pairs = if not (list_all variable_holds pairs) then false else are_distinct (names_of pairs)

-- 5: empty for the root, or a path
unfoldable pub directory_holds : List ℕ → Bool
directory_holds text = if length text == 0 then true else is_path text

-- 6, 7, 12, 13, 14, 16: a number from one to another
abbrev pub is_within : ℕ → ℕ → ℕ → Bool
is_within low high n = nat_le low n && nat_le n high

-- 8, 9: paths
unfoldable pub paths_hold : List (List ℕ) → Bool
paths_hold texts = list_all is_path texts

-- one of the outputs is above one of the paths
unfoldable pub some_above : List (List ℕ) → List (List ℕ) → Bool
some_above outputs paths = list_any (λ output. list_any (λ path. is_below path output) paths) outputs

-- the outputs are below the working directory, and none is above another or above a declared input
unfoldable pub outputs_stand : List ℕ → List (List ℕ) → List (List ℕ) → List (List ℕ) → Bool
outputs_stand directory inputs toolchain_inputs outputs =
    if not (list_all (λ output. is_below output directory) outputs) then false
    else if some_above outputs outputs then false
    else if some_above outputs inputs then false
    else not (some_above outputs toolchain_inputs)

-- 10: paths below the working directory, none above another or above a declared input
unfoldable pub outputs_hold : List ℕ → List (List ℕ) → List (List ℕ) → List (List ℕ) → Bool
outputs_hold directory inputs toolchain_inputs outputs =
    if not (paths_hold outputs) then false
    else outputs_stand (path_in directory) (paths_in inputs) (paths_in toolchain_inputs) (paths_in outputs)

unfoldable pub platform_holds : List Pair → Bool
platform_holds pairs = list_all property_holds pairs

-- the least field from 11 on that breaks its rule
unfoldable pub bad_last_field : RawRequest → Option ℕ
bad_last_field raw =
    if not (platform_holds raw.platform) then Some 11
    else if not (is_within 0 1 raw.accept_cached) then Some 12
    else if not (is_within 0 1 raw.watch) then Some 13
    else if not (is_within 0 4294967295 raw.timeout_seconds) then Some 14
    else if not (is_within 0 1 raw.in_place) then Some 16
    else None

-- the least field from 8 on that breaks its rule
abbrev pub bad_path_field : RawRequest → Option ℕ
bad_path_field raw =
    if not (paths_hold raw.inputs) then Some 8
    else if not (paths_hold raw.toolchain_inputs) then Some 9
    else if not (outputs_hold raw.working_directory raw.inputs raw.toolchain_inputs raw.outputs) then Some 10
    else bad_last_field raw

-- the least field that breaks its rule
unfoldable pub bad_field : RawRequest → Option ℕ
bad_field raw =
    if not (words_hold raw.words) then Some 3
    else if not (environment_holds raw.environment) then Some 4
    else if not (directory_holds raw.working_directory) then Some 5
    else if not (is_within 1 4 raw.strategy) then Some 6
    else if not (is_within 1 2 raw.kind) then Some 7
    else bad_path_field raw

-- ---- the request

-- 1 local, 2 remote, 3 remote_local_fallback, 4 racing
abbrev pub strategy_of : ℕ → Strategy
strategy_of n =
    if n == 1 then strategies.Local
    else if n == 2 then strategies.Remote
    else if n == 3 then strategies.RemoteLocalFallback
    else strategies.Racing

-- 1 tool, 2 compile
abbrev pub kind_of : ℕ → Kind
kind_of n = if n == 1 then kinds.Tool else kinds.Compile

abbrev pub request_from : RawRequest → Request
request_from raw = record {
  root = raw.root;
  words = raw.words;
  environment = raw.environment;
  working_directory = raw.working_directory;
  strategy = strategy_of raw.strategy;
  kind = kind_of raw.kind;
  inputs = raw.inputs;
  toolchain_inputs = raw.toolchain_inputs;
  outputs = raw.outputs;
  platform = raw.platform;
  accept_cached = raw.accept_cached == 1;
  watch = raw.watch == 1;
  timeout_seconds = raw.timeout_seconds;
  in_place = raw.in_place == 1;
}

-- a field is refused for a reason
abbrev pub refused : BadReason → Option ℕ → Result (Unit {0}) Bad
refused reason None = Ok tt
refused reason (Some number) = Err (bad reason number)

-- the request that a message is, of the served root
unfoldable pub request_by : List ℕ → RawRequest → Result Request Bad
request_by root raw =
    if not (raw.version == 1) then Err (bad UnknownVersion raw.version)
    else if not (bytes_eq raw.root root) then Err (bad WrongRoot 0)
    else do
      _ ← refused BadField (bad_field raw)
      Ok (request_from raw)
