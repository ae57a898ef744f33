-- What holds of each request that bytes are: it meets the rules of its fields.
use Rattle.std.proofs.Common.{◌≡◌, ℕ, ◌+◌, Bool, true, false, List, drop, get_or, length, refl, take}
use Rattle.std.specs.Cmp.Lexicographic.{nat_list_cmp_total}
use Rattle.std.specs.FinMap.{nat_cmp-IsAntisymmetric, slice_cmp-IsAntisymmetric}
use Rattle.std.specs.Prelude.{◌==◌, All, Contains, Err, IfOk, None, Ok, Option, Result, Some, if◌then◌else◌, nat_lt, not}
use Rattle.std.specs.List.{list_all}
use Rattle.std.specs.Str.{bytes_eq}
use Rattle.std.proofs.lemmas.List.Elements.{All-contains, Contains-get_or}
use Rattle.std.proofs.lemmas.List.Sums.{AllPass-from_list_all}
use Rattle.rx_base.specs.Paths.{is_below}
use Rattle.rx_base.specs.Results.{◌>>=◌}
use Rattle.rx_base.specs.SortedPaths.{sorted_paths}
use Rattle.rx_base.proofs.Orders.{HasSameMembers-sorted_once}
use Rattle.rx_session.specs.declared.bad.Bad.{Bad}
use Rattle.rx_session.specs.declared.bad.BadReason.{BadReason}
use Rattle.rx_session.specs.declared.bad.BadReason.TheVariants.{BadField, BadMessage, CutShort, Trailing, UnknownVersion, WrongRoot}
use Rattle.rx_session.specs.declared.frames.Incoming.{Incoming}
use Rattle.rx_session.specs.declared.frames.Incoming.TheVariants as incomings
use Rattle.rx_session.specs.declared.headers.Head.{Head}
use Rattle.rx_session.specs.declared.headers.Head.TheVariants as heads
use Rattle.rx_session.specs.declared.raw_request.RawRequest.{RawRequest}
use Rattle.rx_session.specs.declared.requests.Request.{Request}
use Rattle.rx_session.specs.Bad.{bad}
use Rattle.rx_session.specs.Frames.{IsRequest, alone, head_in, incoming_by, incoming_of, or_bad_message, or_request, payload_request, request_within}
use Rattle.rx_session.specs.Jobs.{command_of}
use Rattle.rx_session.specs.Messages.{raw_request_of}
use Rattle.rx_session.specs.Rules.{bad_field, outputs_hold, outputs_stand, path_in, paths_hold, paths_in, refused, request_by, request_from, some_above}
use Rattle.rx_session.proofs.RuleLemmas.{outputs-hold}

-- ---- from the fields to the bytes

module _ (P : Request → Type 0) where
  -- what holds of each value of the second result, holds of the value of both
  bind-if : {A : Type 0} (first : Result A Bad) (second : A → Result Request Bad) → ((a : A) → IfOk (second a) P) → IfOk (first >>= second) P
  bind-if (Ok a) second h = h a
  bind-if (Err e) second h = tt

  -- what passes a test
  test-if : (test : Bool) (why : Bad) (rest : Result Request Bad) → IfOk rest P → IfOk (if test then Err why else rest) P
  test-if true why rest h = tt
  test-if false why rest h = h

  -- what holds either way
  served-if : (test : Bool) (one rest : Result Request Bad) → IfOk one P → IfOk rest P → IfOk (if test then one else rest) P
  served-if true one rest h g = h
  served-if false one rest h g = g

  refused-if : (reason : BadReason) (field : Option ℕ) (rest : Result Request Bad) → (field ≡ None → IfOk rest P) → IfOk (refused reason field >>= λ x. rest) P
  refused-if reason None rest h = h refl
  refused-if reason (Some number) rest h = tt

  module _ (holds : (raw : RawRequest) → bad_field raw ≡ None → P (request_from raw)) where
    message-holds : (root payload : List ℕ) → IfOk (payload_request root payload) P
    unfolding payload_request request_by
    message-holds root payload =
        bind-if (or_bad_message (raw_request_of payload)) (λ raw. request_by root raw) (λ raw.
        let right : Result Request Bad = (refused BadField (bad_field raw) >>= λ x. Ok (request_from raw)) in
        test-if (not (raw.version == 1)) (bad UnknownVersion raw.version) (if not (bytes_eq raw.root root) then Err (bad WrongRoot 0) else right)
        (test-if (not (bytes_eq raw.root root)) (bad WrongRoot 0) right
        (refused-if BadField (bad_field raw) (Ok (request_from raw)) (λ right. holds raw right))))

    alone-holds : (len : ℕ) (text : List ℕ) (request : Result Request Bad) → IfOk request P → IfOk (request >>= alone len text) P
    alone-holds len text (Ok request) h =
        served-if request.watch (Ok request) (if nat_lt (5 + len) (length text) then Err (bad Trailing (5 + len)) else Ok request) h
        (test-if (nat_lt (5 + len) (length text)) (bad Trailing (5 + len)) (Ok request) h)
    alone-holds len text (Err why) h = tt

    within-holds : (root : List ℕ) (len : ℕ) (text : List ℕ) → IfOk (request_within root len text) P
    unfolding request_within
    within-holds root len text =
        let payload = payload_request root (take len (drop 5 text)) in
        test-if (nat_lt (length text) (5 + len)) (bad CutShort (length text)) (payload >>= alone len text) (alone-holds len text payload (message-holds root (take len (drop 5 text))))

    -- P holds of a request that came in
    abbrev ForRequest : Incoming → Type 0
    ForRequest (incomings.Request request) = P request
    ForRequest incomings.Shutdown = Unit {0}

    found-holds : (request : Result Request Bad) → IfOk request P → IfOk (or_request request) ForRequest
    found-holds (Ok request) h = h
    found-holds (Err why) h = tt

    ends-hold : (short long : Bool) (x y : Bad) → IfOk (if short then Err x else if long then Err y else Ok incomings.Shutdown) ForRequest
    ends-hold true long x y = tt
    ends-hold false true x y = tt
    ends-hold false false x y = tt

    head-holds : (root text : List ℕ) (head : Head) → IfOk (incoming_by root text head) ForRequest
    head-holds root text (heads.Request len) = found-holds (request_within root len text) (within-holds root len text)
    head-holds root text (heads.Shutdown len) = ends-hold (nat_lt (length text) (5 + len)) (nat_lt 0 len) (bad CutShort (length text)) (bad BadMessage 1)

    told-holds : (root text : List ℕ) (head : Result Head Bad) → IfOk (head >>= incoming_by root text) ForRequest
    told-holds root text (Ok head) = head-holds root text head
    told-holds root text (Err why) = tt

    frame-holds : (root text : List ℕ) → IfOk (incoming_of root text) ForRequest
    unfolding incoming_of
    frame-holds root text = told-holds root text (head_in text)

    -- what holds of each message whose fields hold, holds of each request that bytes are
    pub decoded-holds : (root text : List ℕ) (request : Request) → IsRequest root text request → P request
    decoded-holds root text request h = let held = frame-holds root text in rw h at held

-- ---- the outputs

-- the command's outputs are below its working directory
abbrev pub AreOutputsBelow : Request → Type 0
AreOutputsBelow request = All (λ output. is_below output (command_of request).working_directory ≡ true) (command_of request).outputs

not-else : (test rest : Bool) → (if not test then false else rest) ≡ true → (test ≡ true) × (rest ≡ true)
not-else true rest h = (refl, h)
not-else false rest h = absurd (cc h)

all-below : (directory : List ℕ) (inputs toolchain outputs : List (List ℕ)) → outputs_stand directory inputs toolchain outputs ≡ true → list_all (λ output. is_below output directory) outputs ≡ true
unfolding outputs_stand
all-below directory inputs toolchain outputs h =
    (not-else (list_all (λ output. is_below output directory) outputs)
    (if some_above outputs outputs then false else if some_above outputs inputs then false else not (some_above outputs toolchain)) h).0

held-below : (directory : List ℕ) (inputs toolchain outputs : List (List ℕ)) → outputs_hold directory inputs toolchain outputs ≡ true → list_all (λ output. is_below output (path_in directory)) (paths_in outputs) ≡ true
unfolding outputs_hold
held-below directory inputs toolchain outputs h =
    all-below (path_in directory) (paths_in inputs) (paths_in toolchain) (paths_in outputs)
    (not-else (paths_hold outputs) (outputs_stand (path_in directory) (paths_in inputs) (paths_in toolchain) (paths_in outputs)) h).1

sorted-below : (directory : List ℕ) (outputs : List (List ℕ)) → list_all (λ output. is_below output directory) outputs ≡ true
    → All (λ output. is_below output directory ≡ true) (sorted_paths outputs)
sorted-below directory outputs h = λ k d within.
    let all = sorted_paths outputs in
    let path = get_or all k d in
    let there : Contains outputs path = (HasSameMembers-sorted_once nat_list_cmp_total (slice_cmp-IsAntisymmetric nat_cmp-IsAntisymmetric) outputs path).1 (Contains-get_or all k d within) in
    All-contains (λ output. is_below output directory ≡ true) outputs path (AllPass-from_list_all (λ output. is_below output directory) outputs h) there

fields-below : (raw : RawRequest) → bad_field raw ≡ None → AreOutputsBelow (request_from raw)
unfolding command_of
fields-below raw h = sorted-below (path_in raw.working_directory) (paths_in raw.outputs) (held-below raw.working_directory raw.inputs raw.toolchain_inputs raw.outputs (outputs-hold raw h))

-- so they are of each request that bytes are
pub outputs-below : (root text : List ℕ) (request : Request) → IsRequest root text request → AreOutputsBelow request
outputs-below root text request h = decoded-holds AreOutputsBelow fields-below root text request h
