-- What may follow a request that watches.
use Rattle.std.proofs.Common.{◌≡◌, ℕ, ◌+◌, ◌≤◌, Bool, true, false, List, [], ◌++◌, length, take, drop, Result, Ok, Err, refl, sym, ap, ◌∙◌, arith, nat_lt, length-append, length-drop, ltb-false, drop_at}
use Rattle.std.specs.Prelude.{if◌then◌else◌}
use Rattle.std.proofs.lemmas.Bool.{le-ltb}
use Rattle.std.proofs.lemmas.List.{drop-append-le, take-append-le}
use Rattle.rx_base.specs.Results.{◌>>=◌}
use Rattle.rx_session.specs.declared.bad.Bad.{Bad}
use Rattle.rx_session.specs.declared.bad.BadReason.TheVariants.{CutShort}
use Rattle.rx_session.specs.declared.frames.Incoming.{Incoming}
use Rattle.rx_session.specs.declared.frames.Incoming.TheVariants as incomings
use Rattle.rx_session.specs.declared.headers.Head.{Head}
use Rattle.rx_session.specs.declared.headers.Head.TheVariants as heads
use Rattle.rx_session.specs.declared.requests.Request.{Request}
use Rattle.rx_session.specs.Bad.{bad}
use Rattle.rx_session.specs.Frames.{alone, behind, head_in, incoming_by, incoming_of, length_in, or_request, payload_request, request_within, shutdown_within}
use Rattle.rx_session.proofs.FrameLemmas.{head_in-more, incoming_of-header, length_told}

abbrev found : Request → Result Request Bad
found request = Ok request

abbrev came : Request → Result Incoming Bad
came request = Ok (incomings.Request request)

-- ---- the bytes of a request: a header, and a payload of its length

record IsWhole (root text : List ℕ) (len : ℕ) (request : Request) : Type 0 where
  pub size : 5 + len ≤ length text
  pub payload : payload_request root (take len (drop 5 text)) ≡ Ok request

record IsFramed (root text : List ℕ) (request : Request) : Type 0 where
  pub len : ℕ
  pub told : head_in text ≡ Ok (heads.Request len)
  pub whole : IsWhole root text len request

came_is : (given : Result Request Bad) (request : Request) → or_request given ≡ came request → given ≡ found request
came_is (Ok a) request h = cc
came_is (Err why) request h = absurd (cc h)

alone_is : (watch past : Bool) (why : Bad) (a request : Request) → (if watch then found a else if past then Err why else found a) ≡ found request → a ≡ request
alone_is true past why a request h = cc
alone_is false true why a request h = absurd (cc h)
alone_is false false why a request h = cc

alone_watched : (len : ℕ) (text : List ℕ) (request : Request) → request.watch ≡ true → alone len text request ≡ found request
alone_watched len text request watch = rw watch refl

payload_is : (len : ℕ) (text : List ℕ) (given : Result Request Bad) (request : Request) → (given >>= alone len text) ≡ found request → given ≡ found request
payload_is len text (Ok a) request h = ap found (alone_is a.watch (nat_lt (5 + len) (length text)) _ a request h)
payload_is len text (Err why) request h = absurd (cc h)

by_size : (root text : List ℕ) (len : ℕ) (request : Request) (short : Bool) → nat_lt (length text) (5 + len) ≡ short
    → (if short then Err (bad CutShort (length text)) else (payload_request root (take len (drop 5 text)) >>= alone len text)) ≡ found request → IsWhole root text len request
by_size root text len request true e h = absurd (cc h)
by_size root text len request false e h =
    record { size = ltb-false _ _ e; payload = payload_is len text (payload_request root (take len (drop 5 text))) request h }

within_is : (root text : List ℕ) (len : ℕ) (request : Request) → request_within root len text ≡ found request → IsWhole root text len request
unfolding request_within
within_is root text len request h = by_size root text len request (nat_lt (length text) (5 + len)) refl h

no_shutdown_by : (short long : Bool) (x y : Bad) (request : Request) → (if short then Err x else if long then Err y else Ok incomings.Shutdown) ≡ came request → ⊥
no_shutdown_by true long x y request h = cc
no_shutdown_by false true x y request h = cc
no_shutdown_by false false x y request h = cc

no_shutdown : (len : ℕ) (text : List ℕ) (request : Request) → shutdown_within len text ≡ came request → ⊥
no_shutdown len text request h = no_shutdown_by (nat_lt (length text) (5 + len)) (nat_lt 0 len) _ _ request h

by_head : (root text : List ℕ) (request : Request) (head : Result Head Bad) → head_in text ≡ head → (head >>= incoming_by root text) ≡ came request → IsFramed root text request
by_head root text request (Ok (heads.Request len)) e h = record { len = len; told = e; whole = within_is root text len request (came_is (request_within root len text) request h) }
by_head root text request (Ok (heads.Shutdown len)) e h = absurd (no_shutdown len text request h)
by_head root text request (Err why) e h = absurd (cc h)

framed : (root text : List ℕ) (request : Request) → incoming_of root text ≡ came request → IsFramed root text request
unfolding incoming_of
framed root text request h = by_head root text request (head_in text) refl h

-- ---- with more bytes behind it

within-more : (root text more : List ℕ) (len : ℕ) (request : Request) → IsWhole root text len request → request_within root len (text ++ more) ≡ alone len (text ++ more) request
unfolding request_within
within-more root text more len request w =
    let test : nat_lt (length (text ++ more)) (5 + len) ≡ false = le-ltb _ _ (omega (arith, length-append text more, w.size)) in
    let front : len ≤ length (drop 5 text) = omega (arith, length-drop 5 text, w.size) in
    let payload : take len (drop 5 (text ++ more)) ≡ take len (drop 5 text) =
    rw (drop-append-le 5 text more (omega (arith, w.size))) (take-append-le len (drop 5 text) more front) in
    rw (test, payload, w.payload) refl

came-more : (root text more : List ℕ) (request : Request) (f : IsFramed root text request) → incoming_of root (text ++ more) ≡ or_request (alone f.len (text ++ more) request)
came-more root text more request f =
    incoming_of-header root f.len text (text ++ more) more f.told refl ∙ ap or_request (within-more root text more f.len request f.whole)

-- behind a request that watches anything may come
pub incoming-watched : (root text more : List ℕ) (request : Request) → incoming_of root text ≡ Ok (incomings.Request request) → request.watch ≡ true
    → incoming_of root (text ++ more) ≡ Ok (incomings.Request request)
incoming-watched root text more request h watch =
    let f = framed root text request h in
    came-more root text more request f ∙ ap or_request (alone_watched f.len (text ++ more) request watch)

-- what is behind the longer bytes came behind the frame
pub behind-more : (root text more : List ℕ) (request : Request) → incoming_of root text ≡ Ok (incomings.Request request) → behind text ≡ []
    → behind (text ++ more) ≡ more
behind-more root text more request h bare =
    let f = framed root text request h in
    let same : length_in text ≡ f.len = length_told (heads.Request f.len) text f.told in
    let later : length_in (text ++ more) ≡ f.len = length_told (heads.Request f.len) (text ++ more) (head_in-more (heads.Request f.len) text more f.told) in
    let none : length (drop (5 + f.len) text) ≡ 0 = ap length (rw same at bare) in
    let size : length text ≡ 5 + f.len = omega (arith, none, length-drop (5 + f.len) text, f.whole.size) in
    rw later (drop_at text more (5 + f.len) size)

-- bytes that are a request decide which one longer ones are, whether or not it watches
pub incoming-prefix : (root text more : List ℕ) (a b : Request) → incoming_of root text ≡ Ok (incomings.Request a)
    → incoming_of root (text ++ more) ≡ Ok (incomings.Request b) → a ≡ b
incoming-prefix root text more a b h g =
    let f = framed root text a h in
    let given : alone f.len (text ++ more) a ≡ found b = came_is (alone f.len (text ++ more) a) b (sym (came-more root text more a f) ∙ g) in
    alone_is a.watch (nat_lt (5 + f.len) (length (text ++ more))) _ a b given
