-- A frame that is read in pieces: its header, its payload, and what follows.
use Rattle.std.proofs.Common.{◌≡◌, ℕ, ◌+◌, ◌<◌, ◌≤◌, ◌==◌, not, Bool, true, false, List, [], ◌∷◌, ◌++◌, length, take, drop, Option, Result, Ok, Err, refl, sym, ap, ◌∙◌, arith, append_assoc, append-nil, nat_lt, length-append, length-drop, subst}
use Rattle.std.proofs.lemmas.Bool.{lt-ltb, le-ltb}
use Rattle.std.proofs.lemmas.List.{drop-append-le, drop_all}
use Rattle.std.specs.Prelude.{OnOk, if◌then◌else◌, slice_index}
use Rattle.std.proofs.Math.Seq.{take-append_seam}
use Rattle.std.proofs.KnownBytes.{Consumes-trans, Consumes-kept, Consumes-nil}
use Rattle.std.specs.Io.KnownBytes.{Consumes, Keeps, IsAtEnd}
use Rattle.rx_base.specs.Results.{◌>>=◌}
use Rattle.rx_session.specs.declared.bad.Bad.{Bad}
use Rattle.rx_session.specs.declared.bad.BadReason.TheVariants.{CutShort, Trailing}
use Rattle.rx_session.specs.declared.bad.SessionFault.{SessionFault}
use Rattle.rx_session.specs.declared.bad.SessionFault.TheVariants as faults
use Rattle.rx_session.specs.declared.frames.Incoming.{Incoming}
use Rattle.rx_session.specs.declared.headers.Head.{Head}
use Rattle.rx_session.specs.declared.headers.Head.TheVariants as heads
use Rattle.rx_session.specs.declared.requests.Request.{Request}
use Rattle.rx_session.specs.Bad.{Decodes, bad}
use Rattle.rx_session.specs.Frames.{EndsRead, alone, begins, behind, head_by, head_in, incoming_of, length_in, longest_payload, or_request, payload_length, payload_request, reach_by, reach_of, request_within, shutdown_within}
use Rattle.rx_session.specs.Streams.{IsNoBad, IsNoCut, IsNoCutPast, ReadsOn}

abbrev tells : Head → Result Head Bad
tells head = Ok head

-- ---- pieces that were read one after the other

pub reads_join : (a b c : Option (List ℕ)) (x y z : List ℕ) → ReadsOn a b x y → ReadsOn b c y z → ReadsOn a c x z
reads_join a b c x y z p q = record {
  bytes = p.bytes ++ q.bytes;
  grown = q.grown ∙ ap (λ (s : List ℕ). s ++ q.bytes) p.grown ∙ append_assoc x p.bytes q.bytes;
  consumed = Consumes-trans a b c p.bytes q.bytes p.consumed q.consumed;
}

pub reads_nothing : (a b : Option (List ℕ)) (x : List ℕ) → Keeps a b → ReadsOn a b x x
reads_nothing a b x k = record { bytes = []; grown = sym (append-nil x); consumed = Consumes-kept a a b [] (Consumes-nil a) k }

pub reads_whole : (a b : Option (List ℕ)) (x y : List ℕ) → x ≡ [] → ReadsOn a b x y → Consumes a b y
reads_whole a b x y e p =
    let whole : p.bytes ≡ y = sym (p.grown ∙ ap (λ (s : List ℕ). s ++ p.bytes) e) in
    subst (λ (s : List ℕ). Consumes a b s) whole p.consumed

-- ---- faults that are no refusal

pub no_refusal : {X Y : Type 0} (view : X → Y) (fault : SessionFault) (given : Result Y Bad) → IsNoBad fault → Decodes view (Err fault) given
no_refusal view faults.ReadFault given h = tt
no_refusal view faults.NoMemory given h = tt
no_refusal view (faults.Bad why) given h = absurd h

pub no_refusal_ends : (left : Option (List ℕ)) (fault : SessionFault) → IsNoBad fault → EndsRead left (Err fault)
no_refusal_ends left faults.ReadFault h = tt
no_refusal_ends left faults.NoMemory h = tt
no_refusal_ends left (faults.Bad why) h = absurd h

pub no_cut_ends : (left : Option (List ℕ)) (fault : SessionFault) → IsNoCut fault → EndsRead left (Err fault)
no_cut_ends left faults.ReadFault h = tt
no_cut_ends left faults.NoMemory h = tt
no_cut_ends left (faults.Bad why) h = λ e. absurd (h e)

pub header_ends : (left : Option (List ℕ)) (len : ℕ) (fault : SessionFault) → IsNoCutPast len fault → (len < 5 → IsAtEnd left) → EndsRead left (Err fault)
header_ends left len faults.ReadFault h end = tt
header_ends left len faults.NoMemory h end = tt
header_ends left len (faults.Bad why) h end = λ e. end (h e)

-- ---- the header

pub header_refused : (view : Head → Head) (seen : Incoming → Incoming) (root text : List ℕ) (fault : SessionFault) → Decodes view (Err fault) (head_in text)
    → Decodes seen (Err fault) (incoming_of root text)
unfolding incoming_of
header_refused view seen root text faults.ReadFault h = tt
header_refused view seen root text faults.NoMemory h = tt
header_refused view seen root text (faults.Bad why) h = rw h refl

-- the header tells the same with more bytes behind it
pub head_in-more : (head : Head) (text more : List ℕ) → head_in text ≡ Ok head → head_in (text ++ more) ≡ Ok head
unfolding head_in
head_in-more head [] more h = absurd (cc h)
head_in-more head (a ∷ []) more h = absurd (cc h)
head_in-more head (a ∷ b ∷ []) more h = absurd (cc h)
head_in-more head (a ∷ b ∷ c ∷ []) more h = absurd (cc h)
head_in-more head (a ∷ b ∷ c ∷ d ∷ []) more h = absurd (cc h)
head_in-more head (a ∷ b ∷ c ∷ d ∷ e ∷ rest) more h =
    let first : nat_lt (length (a ∷ b ∷ c ∷ d ∷ e ∷ rest)) 5 ≡ false = le-ltb _ _ (omega arith) in
    let second : nat_lt (length (a ∷ b ∷ c ∷ d ∷ e ∷ (rest ++ more))) 5 ≡ false = le-ltb _ _ (omega arith) in
    rw second (rw first at h)

-- what comes in where the header of a request and more were read
pub incoming_of-header : (root : List ℕ) (len : ℕ) (head text more : List ℕ) → head_in head ≡ Ok (heads.Request len) → text ≡ head ++ more
    → incoming_of root text ≡ or_request (request_within root len text)
unfolding incoming_of
incoming_of-header root len head text more h e =
    let told : head_in text ≡ Ok (heads.Request len) = rw e (head_in-more (heads.Request len) head more h) in
    rw told refl

-- and where that of a Shutdown and its payload were
pub incoming_of-shutdown : (root : List ℕ) (len : ℕ) (head text more : List ℕ) → head_in head ≡ Ok (heads.Shutdown len) → text ≡ head ++ more
    → incoming_of root text ≡ shutdown_within len text
unfolding incoming_of
incoming_of-shutdown root len head text more h e =
    let told : head_in text ≡ Ok (heads.Shutdown len) = rw e (head_in-more (heads.Shutdown len) head more h) in
    rw told refl

pub shutdown_decodes : (view : Incoming → Incoming) (result : Result Incoming SessionFault) (root : List ℕ) (len : ℕ) (head text more : List ℕ)
    → head_in head ≡ Ok (heads.Shutdown len) → text ≡ head ++ more → Decodes view result (shutdown_within len text) → Decodes view result (incoming_of root text)
shutdown_decodes view result root len head text more h e d = rw (incoming_of-shutdown root len head text more h e) d

-- ---- how far is read

five_reached : (told : Result Head Bad) → 5 ≤ reach_by told
five_reached (Ok (heads.Request len)) = omega arith
five_reached (Ok (heads.Shutdown len)) = omega arith
five_reached (Err why) = omega arith

pub reach-header : (text : List ℕ) → length text ≤ 5 → length text ≤ reach_of text
reach-header text h = let five = five_reached (head_in text) in omega (arith, h, five)

pub reach-told : (len : ℕ) (head text more : List ℕ) → head_in head ≡ Ok (heads.Request len) → text ≡ head ++ more → length text ≤ 5 + len + 1
    → length text ≤ reach_of text
reach-told len head text more h e le =
    let told : head_in text ≡ Ok (heads.Request len) = rw e (head_in-more (heads.Request len) head more h) in
    rw told le

pub reach-shutdown : (len : ℕ) (head text more : List ℕ) → head_in head ≡ Ok (heads.Shutdown len) → text ≡ head ++ more → length text ≤ 5 + len
    → length text ≤ reach_of text
reach-shutdown len head text more h e le =
    let told : head_in text ≡ Ok (heads.Shutdown len) = rw e (head_in-more (heads.Shutdown len) head more h) in
    rw told le

-- ---- what is behind the frame

by_kind : (len : ℕ) (first : Bool) → payload_length (if first then heads.Request len else heads.Shutdown len) ≡ len
by_kind len true = refl
by_kind len false = refl

tells_is : (a b : Head) → tells a ≡ tells b → a ≡ b
tells_is a b h = cc

by_tests : (head : Head) (len kind : ℕ) (short begun long : Bool) (x y z : Bad)
    → (if short then Err x else if not begun then Err y else if long then Err z else Ok (head_by kind len)) ≡ tells head → len ≡ payload_length head
by_tests head len kind true begun long x y z h = absurd (cc h)
by_tests head len kind false false long x y z h = absurd (cc h)
by_tests head len kind false true true x y z h = absurd (cc h)
by_tests head len kind false true false x y z h = sym (by_kind len (kind == 1)) ∙ ap payload_length (tells_is (head_by kind len) head h)

-- a payload's length is that of the header
pub length_told : (head : Head) (text : List ℕ) → head_in text ≡ Ok head → length_in text ≡ payload_length head
unfolding head_in
length_told head text h =
    by_tests head (length_in text) (slice_index text 0) (nat_lt (length text) 5) (begins (slice_index text 0)) (nat_lt longest_payload (length_in text)) _ _ _ h

pub bare_header : (text : List ℕ) → length text ≤ 5 → behind text ≡ []
bare_header text le = drop_all (5 + length_in text) text (omega (arith, le))

pub bare_told : (told : Head) (head text more : List ℕ) → head_in head ≡ Ok told → text ≡ head ++ more → length text ≤ 5 + payload_length told → behind text ≡ []
bare_told told head text more h e le =
    let same = length_told told text (rw e (head_in-more told head more h)) in
    drop_all (5 + length_in text) text (omega (arith, le, same))

-- so it is of what came in
pub bare_ok : (result : Result Incoming SessionFault) (text : List ℕ) → behind text ≡ [] → OnOk result (behind text ≡ [])
bare_ok (Ok incoming) text e = e
bare_ok (Err fault) text e = tt

-- ---- the payload

pub within_cut : (root : List ℕ) (len : ℕ) (text : List ℕ) → length text < 5 + len → request_within root len text ≡ Err (bad CutShort (length text))
unfolding request_within
within_cut root len text lt = let test : nat_lt (length text) (5 + len) ≡ true = lt-ltb _ _ lt in rw test refl

pub payload_is : (len : ℕ) (front more : List ℕ) → length front ≡ 5 + len → take len (drop 5 (front ++ more)) ≡ drop 5 front
payload_is len front more e =
    let size : length (drop 5 front) ≡ len = omega (arith, length-drop 5 front) in
    rw (drop-append-le 5 front more (omega arith), ← size) (take-append_seam (drop 5 front) more)

within_whole : (root : List ℕ) (len : ℕ) (front text more : List ℕ) → length front ≡ 5 + len → text ≡ front ++ more → request_within root len text ≡ (payload_request root (drop 5 front) >>= alone len text)
unfolding request_within
within_whole root len front text more size e =
    let long : 5 + len ≤ length text = rw e (omega (arith, length-append front more)) in
    let test : nat_lt (length text) (5 + len) ≡ false = le-ltb _ _ long in
    let payload : take len (drop 5 text) ≡ drop 5 front = rw e (payload_is len front more size) in
    rw (test, payload) refl

pub within_refused : (payloads : Request → Request) (seen : Incoming → Incoming) (root : List ℕ) (len : ℕ) (front : List ℕ) (fault : SessionFault)
    → length front ≡ 5 + len → Decodes payloads (Err fault) (payload_request root (drop 5 front)) → Decodes seen (Err fault) (or_request (request_within root len front))
within_refused payloads seen root len front faults.ReadFault size h = tt
within_refused payloads seen root len front faults.NoMemory size h = tt
within_refused payloads seen root len front (faults.Bad why) size h =
    let given : request_within root len front ≡ Err why = within_whole root len front front [] size (sym (append-nil front)) ∙ rw h refl in
    ap or_request given

-- behind one that watches anything may come
pub within_watched : (root : List ℕ) (len : ℕ) (front text more : List ℕ) (request : Request) → length front ≡ 5 + len → text ≡ front ++ more
    → payload_request root (drop 5 front) ≡ Ok request → request.watch ≡ true → request_within root len text ≡ Ok request
within_watched root len front text more request size e ok watch = within_whole root len front text more size e ∙ rw (ok, watch) refl

pub within_trailing : (root : List ℕ) (len : ℕ) (front text more : List ℕ) (request : Request) → length front ≡ 5 + len → text ≡ front ++ more
    → payload_request root (drop 5 front) ≡ Ok request → request.watch ≡ false → 5 + len < length text → request_within root len text ≡ Err (bad Trailing (5 + len))
within_trailing root len front text more request size e ok watch lt =
    let test : nat_lt (5 + len) (length text) ≡ true = lt-ltb _ _ lt in
    within_whole root len front text more size e ∙ rw (ok, watch, test) refl

pub within_alone : (root : List ℕ) (len : ℕ) (front text more : List ℕ) (request : Request) → length front ≡ 5 + len → text ≡ front ++ more
    → payload_request root (drop 5 front) ≡ Ok request → request.watch ≡ false → length text ≤ 5 + len → request_within root len text ≡ Ok request
within_alone root len front text more request size e ok watch le =
    let test : nat_lt (5 + len) (length text) ≡ false = le-ltb _ _ le in
    within_whole root len front text more size e ∙ rw (ok, watch, test) refl
