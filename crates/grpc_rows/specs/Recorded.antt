-- A farm that tells the same bytes over each of its links, whatever it is sent.
use Rattle.std.specs.Prelude.{◌≡◌, ℕ, List, [], ◌∷◌, ◌++◌, None, codes, pos}
use Rattle.rx_messages.specs.declared.results.ActionResult.{ActionResult}

-- A state of an execution that is done (google/longrunning/operations.proto): done 3, response 5. The response is of the type
-- ExecuteResponse, and its field 1 is an ActionResult without fields.
abbrev pub message : List ℕ
message =
    24 ∷ 1 ∷ 42 ∷ 73 ∷ 10 ∷ 67 ∷ codes "type.googleapis.com/build.bazel.remote.execution.v2.ExecuteResponse"
    ++ 18 ∷ 2 ∷ 10 ∷ 0 ∷ []

-- SETTINGS without a setting; on stream 1 HEADERS with `:status: 200`, and DATA with that message (RFC 9113 6, RFC 7541 A)
abbrev pub recorded : List ℕ
recorded =
    0 ∷ 0 ∷ 0 ∷ 4 ∷ 0 ∷ 0 ∷ 0 ∷ 0 ∷ 0
    ∷ 0 ∷ 0 ∷ 1 ∷ 1 ∷ 4 ∷ 0 ∷ 0 ∷ 0 ∷ 1 ∷ 136
    ∷ 0 ∷ 0 ∷ 82 ∷ 0 ∷ 0 ∷ 0 ∷ 0 ∷ 0 ∷ 1 ∷ 0 ∷ 0 ∷ 0 ∷ 0 ∷ 77 ∷ message

-- the bytes received are a front of these
abbrev pub IsFront : List ℕ → List ℕ → Type 0
IsFront sent received = (more : List ℕ) × (recorded ≡ received ++ more)

-- the result that it tells: code 0, without texts and files
abbrev pub empty_result : ActionResult
empty_result = record {
  output_files = [];
  output_directories = [];
  exit_code = pos 0;
  stdout_raw = [];
  stdout_digest = None;
  stderr_raw = [];
  stderr_digest = None;
  execution_metadata = [];
  output_symlinks = [];
}
