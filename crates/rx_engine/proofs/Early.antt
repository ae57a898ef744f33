-- A refusal of a request stays, whatever bytes follow, but where the frame is cut short; and so does a Shutdown.
use Rattle.std.proofs.Common.{◌≡◌, ℕ, ◌+◌, ◌<◌, ◌≤◌, Bool, true, false, List, [], ◌∷◌, ◌++◌, refl, ap, sym, subst, ◌∙◌, arith, length, length-append, length-drop, take, drop}
use Rattle.std.specs.Prelude.{◌==◌, Err, Ok, Result, if◌then◌else◌, nat_lt, not, slice_index}
use Rattle.std.specs.Int.{from_be_bytes, w32}
use Rattle.std.proofs.lemmas.List.{drop-append-le, take-append-le}
use Rattle.rx_base.specs.Results.{◌>>=◌}
use Rattle.rx_session.specs.declared.bad.Bad.{Bad}
use Rattle.rx_session.specs.declared.bad.BadReason.TheVariants.{BadKind, CutShort, TooLong}
use Rattle.rx_session.specs.declared.frames.Incoming.{Incoming}
use Rattle.rx_session.specs.declared.frames.Incoming.TheVariants as incomings
use Rattle.rx_session.specs.declared.requests.Request.{Request}
use Rattle.rx_session.specs.Bad.{bad}
use Rattle.rx_session.specs.Frames.{IsRequest, alone, begins, head_by, head_in, incoming_by, incoming_of, length_in, longest_payload, or_request, payload_request, request_within, shutdown, shutdown_within}

lt-false : (a b : ℕ) → b ≤ a → nat_lt a b ≡ false
lt-false a b h = grind (arith, h)

lt-true : (a b : ℕ) → a < b → nat_lt a b ≡ true
lt-true a b h = grind (arith, h)

le-of : (a b : ℕ) → nat_lt a b ≡ false → b ≤ a
le-of a b h = grind (arith, h)

lt-of : (a b : ℕ) → nat_lt a b ≡ true → a < b
lt-of a b h = grind (arith, h)

abbrev pub errs : Bad → Result Incoming Bad
errs b = Err b

abbrev oks : Incoming → Result Incoming Bad
oks a = Ok a

err-inj : (a b : Bad) → errs a ≡ errs b → a ≡ b
err-inj a b h = cc

abbrev cuts : Bad → Result Request Bad
cuts b = Err b

cut-inj : (a b : Bad) → cuts a ≡ cuts b → a ≡ b
cut-inj a b h = cc

err-ok : {A E : Type 0} (a : E) (b : A) → Err a ≡ Ok b → ⊥
err-ok a b h = cc

ok-err : {A E : Type 0} (a : A) (b : E) → Ok a ≡ Err b → ⊥
ok-err a b h = cc

-- bytes that are there are the same, whatever follows
slice-more : (n m : ℕ) (text more : List ℕ) → n + m ≤ length text → take m (drop n (text ++ more)) ≡ take m (drop n text)
slice-more n m text more h =
    let front : n ≤ length text = omega (arith, h) in
    let rest : m ≤ length (drop n text) = grind (arith, length-drop, h) in
    ap (take m) (drop-append-le n text more front) ∙ take-append-le m (drop n text) more rest

index-more : (text more : List ℕ) → 0 < length text → slice_index (text ++ more) 0 ≡ slice_index text 0
index-more [] more h = absurd (omega (arith, h))
index-more (b ∷ bs) more h = refl

length-more : (text more : List ℕ) → 5 ≤ length text → length_in (text ++ more) ≡ length_in text
length-more text more h = ap (from_be_bytes w32) (slice-more 1 4 text more (omega (arith, h)))

-- a byte behind the frame of a request that doesn't watch stays there
trails : (w l k : Bool) (a b why : Bad) (r asked : Request) → (l ≡ true → k ≡ true)
    → (if w then Ok r else if l then Err a else Ok r) ≡ Err why → (if w then Ok r else if k then Err b else Ok r) ≡ Ok asked → ⊥
trails true l k a b why r asked m h e = ok-err r why h
trails false true k a b why r asked m h e = let more = m refl in err-ok b asked (rw more at e)
trails false false k a b why r asked m h e = ok-err r why h

tail-late : (len : ℕ) (text more : List ℕ) (why : Bad) (asked : Request) (payload : Result Request Bad)
    → (payload >>= alone len text) ≡ Err why → (payload >>= alone len (text ++ more)) ≡ Ok asked → ⊥
tail-late len text more why asked (Err e) h k = err-ok e asked k
tail-late len text more why asked (Ok r) h k =
    trails r.watch (nat_lt (5 + len) (length text)) (nat_lt (5 + len) (length (text ++ more))) _ _ why r asked
    (λ l. lt-true (5 + len) (length (text ++ more)) (omega (arith, lt-of (5 + len) (length text) l, length-append text more))) h k

within-late : (root : List ℕ) (len : ℕ) (text more : List ℕ) (why : Bad) (asked : Request) (s : Bool) → nat_lt (length text) (5 + len) ≡ s
    → request_within root len text ≡ Err why → (why.reason ≡ CutShort → ⊥) → request_within root len (text ++ more) ≡ Ok asked → ⊥
unfolding request_within
within-late root len text more why asked true se h n k = n (ap (λ b. b.reason) (sym (cut-inj _ why (rw se at h))))
within-late root len text more why asked false se h n k =
    let enough : 5 + len ≤ length text = le-of (length text) (5 + len) se in
    let longer : nat_lt (length (text ++ more)) (5 + len) ≡ false = lt-false (length (text ++ more)) (5 + len) (omega (arith, enough, length-append text more)) in
    let same = slice-more 5 len text more enough in
    tail-late len text more why asked (payload_request root (take len (drop 5 text))) (rw se at h)
    (subst (λ p. (payload_request root p >>= alone len (text ++ more)) ≡ Ok asked) same (rw longer at k))

-- what was found of a request
found-refused : (request : Result Request Bad) (why : Bad) → or_request request ≡ Err why → request ≡ Err why
found-refused (Ok request) why h = absurd (cc h)
found-refused (Err fault) why h = cc

found-asked : (request : Result Request Bad) (asked : Request) → or_request request ≡ Ok (incomings.Request asked) → request ≡ Ok asked
found-asked (Ok request) asked h = cc
found-asked (Err fault) asked h = absurd (cc h)

-- what a header tells, by its kind and length
by-asked : (root text : List ℕ) (kind len : ℕ) → (kind == 1) ≡ true → incoming_by root text (head_by kind len) ≡ or_request (request_within root len text)
by-asked root text kind len e = rw e refl

by-ended : (root text : List ℕ) (kind len : ℕ) → (kind == 1) ≡ false → incoming_by root text (head_by kind len) ≡ shutdown_within len text
by-ended root text kind len e = rw e refl

pub err-in : (a : Bad) (asked : Request) → errs a ≡ Ok (incomings.Request asked) → ⊥
err-in a asked h = cc

-- a Shutdown's frame is none that asks
no-asked : (short some : Bool) (x y : Bad) (asked : Request) → (if short then Err x else if some then Err y else Ok incomings.Shutdown) ≡ oks (incomings.Request asked) → ⊥
no-asked true some x y asked h = cc
no-asked false true x y asked h = cc
no-asked false false x y asked h = cc

head-late : (root text more : List ℕ) (why : Bad) (asked : Request) (kind len : ℕ) (d : Bool) → (kind == 1) ≡ d
    → incoming_by root text (head_by kind len) ≡ Err why → (why.reason ≡ CutShort → ⊥)
    → incoming_by root (text ++ more) (head_by kind len) ≡ Ok (incomings.Request asked) → ⊥
head-late root text more why asked kind len true e h n k =
    within-late root len text more why asked (nat_lt (length text) (5 + len)) refl
    (found-refused (request_within root len text) why (sym (by-asked root text kind len e) ∙ h)) n
    (found-asked (request_within root len (text ++ more)) asked (sym (by-asked root (text ++ more) kind len e) ∙ k))
head-late root text more why asked kind len false e h n k =
    no-asked (nat_lt (length (text ++ more)) (5 + len)) (nat_lt 0 len) _ _ asked (sym (by-ended root (text ++ more) kind len e) ∙ k)

tests-late : (root text more : List ℕ) (why x y : Bad) (asked : Request) (kind len : ℕ) (b l : Bool)
    → ((if not b then Err x else if l then Err y else Ok (head_by kind len)) >>= incoming_by root text) ≡ Err why → (why.reason ≡ CutShort → ⊥)
    → ((if not b then Err x else if l then Err y else Ok (head_by kind len)) >>= incoming_by root (text ++ more)) ≡ Ok (incomings.Request asked) → ⊥
tests-late root text more why x y asked kind len false l h n k = err-in x asked k
tests-late root text more why x y asked kind len true true h n k = err-in y asked k
tests-late root text more why x y asked kind len true false h n k = head-late root text more why asked kind len (kind == 1) refl h n k

early-at : (root : List ℕ) (text more : List ℕ) (why : Bad) (asked : Request) (c : Bool) → nat_lt (length text) 5 ≡ c
    → incoming_of root text ≡ Err why → (why.reason ≡ CutShort → ⊥) → IsRequest root (text ++ more) asked → ⊥
unfolding incoming_of head_in
early-at root text more why asked true ce h n k =
    let short : errs (bad CutShort (length text)) ≡ Err why = rw ce at h in
    n (ap (λ b. b.reason) (sym (err-inj _ why short)))
early-at root text more why asked false ce h n k =
    let five : 5 ≤ length text = le-of (length text) 5 ce in
    let longer : nat_lt (length (text ++ more)) 5 ≡ false = lt-false (length (text ++ more)) 5 (omega (arith, five, length-append text more)) in
    let first = index-more text more (omega (arith, five)) in
    let len = length-more text more five in
    tests-late root text more why (bad BadKind 0) (bad TooLong (length_in text)) asked (slice_index text 0) (length_in text) (begins (slice_index text 0)) (nat_lt longest_payload (length_in text))
    (rw ce at h) n (rw (longer, first, len) at k)

pub early : (root : List ℕ) (text more : List ℕ) (why : Bad) (asked : Request) → incoming_of root text ≡ Err why → (why.reason ≡ CutShort → ⊥) → IsRequest root (text ++ more) asked → ⊥
early root text more why asked h n k = early-at root text more why asked (nat_lt (length text) 5) refl h n k

-- bytes that begin with a Shutdown are no request
ended-late : (root text : List ℕ) (x y z : Bad) (asked : Request) (kind len : ℕ) (c b l : Bool) → (kind == 1) ≡ false
    → ((if c then Err x else if not b then Err y else if l then Err z else Ok (head_by kind len)) >>= incoming_by root text) ≡ Ok (incomings.Request asked) → ⊥
ended-late root text x y z asked kind len true b l e k = err-in x asked k
ended-late root text x y z asked kind len false false l e k = err-in y asked k
ended-late root text x y z asked kind len false true true e k = err-in z asked k
ended-late root text x y z asked kind len false true false e k = no-asked (nat_lt (length text) (5 + len)) (nat_lt 0 len) _ _ asked (sym (by-ended root text kind len e) ∙ k)

pub no-request : (root more : List ℕ) (asked : Request) → IsRequest root (shutdown ++ more) asked → ⊥
unfolding incoming_of head_in
no-request root more asked k =
    let text = shutdown ++ more in
    ended-late root text (bad CutShort (length text)) (bad BadKind 0) (bad TooLong (length_in text)) asked (slice_index text 0) (length_in text) (nat_lt (length text) 5) (begins (slice_index text 0))
    (nat_lt longest_payload (length_in text)) refl k
