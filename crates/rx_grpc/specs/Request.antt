-- A request of one message (PROTOCOL-HTTP2.md of gRPC, "Requests").
use Rattle.std.specs.Prelude.{ℕ, ◌+◌, Bool, ◌&&◌, not, List, [], ◌∷◌, length, if◌then◌else◌, ◌==◌, codes}
use Rattle.rx_hpack.specs.Header.{Field}

abbrev pub field : List ℕ → List ℕ → Field
field name value = record { name = name; value = value }

-- RequestMetadata with the tool's name `reproxy` and version `0.1` (remote_execution.proto, "RequestMetadata"), in base64
-- without padding
abbrev pub tool_details : List ℕ
tool_details = codes "Cg4KB3JlcHJveHkSAzAuMQ"

-- who calls, a name and its version (RFC 9110 10.1.5, "User-Agent")
abbrev pub user_agent : List ℕ
user_agent = codes "reproxy/0.1"

-- the headers but those that name the tool
abbrev pub call_fields : List ℕ → List ℕ → List Field
call_fields path authority =
    field (codes ":method") (codes "POST")
    ∷ field (codes ":scheme") (codes "http")
    ∷ field (codes ":path") path
    ∷ field (codes ":authority") authority
    ∷ field (codes "te") (codes "trailers")
    ∷ field (codes "content-type") (codes "application/grpc")
    ∷ []

abbrev pub request_fields : List ℕ → List ℕ → List Field
request_fields path authority =
    field (codes ":method") (codes "POST")
    ∷ field (codes ":scheme") (codes "http")
    ∷ field (codes ":path") path
    ∷ field (codes ":authority") authority
    ∷ field (codes "te") (codes "trailers")
    ∷ field (codes "content-type") (codes "application/grpc")
    ∷ field (codes "build.bazel.remote.execution.v2.requestmetadata-bin") tool_details
    ∷ field (codes "user-agent") user_agent
    ∷ []

-- what is left to send of the message that is sent now, whether the request ends with it, and whether that end was sent
pub record RequestOf : Type 0 where
  pub left : List ℕ
  pub last : Bool
  pub done : Bool

abbrev pub is_idle : RequestOf → Bool
is_idle r = (length r.left == 0) && not r.last

-- how much can still be taken of the messages that are left: each of them, and the end where it isn't known yet
abbrev pub to_come : List (List ℕ) → RequestOf → ℕ
to_come messages r = length messages + (if r.last then 0 else 1)
