-- The bytes that were read for a Shutdown.
use Rattle.std.proofs.Common.{◌≡◌, ℕ, ◌+◌, ◌*◌, ◌≤◌, ◌==◌, not, Bool, true, false, List, [], ◌∷◌, length, Result, Ok, Err, refl, arith, nat_lt, eqb-true, ltb-false}
use Rattle.std.specs.Prelude.{if◌then◌else◌}
use Rattle.rx_base.specs.Results.{◌>>=◌}
use Rattle.rx_session.specs.declared.bad.Bad.{Bad}
use Rattle.rx_session.specs.declared.frames.Incoming.{Incoming}
use Rattle.rx_session.specs.declared.frames.Incoming.TheVariants as incomings
use Rattle.rx_session.specs.declared.headers.Head.{Head}
use Rattle.rx_session.specs.declared.headers.Head.TheVariants as heads
use Rattle.rx_session.specs.declared.requests.Request.{Request}
use Rattle.rx_session.specs.Frames.{begins, head_by, head_in, incoming_by, incoming_of, length_in, longest_payload, or_request, reach_of, request_within, shutdown}

abbrev ends_all : Result Incoming Bad
ends_all = Ok incomings.Shutdown

abbrev ends_head : Result Head Bad
ends_head = Ok (heads.Shutdown 0)

no_request : (request : Result Request Bad) → or_request request ≡ ends_all → ⊥
no_request (Ok request) h = cc
no_request (Err why) h = cc

-- a Shutdown has no payload
by_payload : (len : ℕ) (short long : Bool) (x y : Bad) → nat_lt 0 len ≡ long → (if short then Err x else if long then Err y else ends_all) ≡ ends_all → len ≡ 0
by_payload len true long x y e h = absurd (cc h)
by_payload len false true x y e h = absurd (cc h)
by_payload len false false x y e h = let le = ltb-false 0 len e in omega arith

-- only a header tells it
told : (root text : List ℕ) (head : Result Head Bad) → (head >>= incoming_by root text) ≡ ends_all → head ≡ ends_head
told root text (Ok (heads.Request len)) h = absurd (no_request (request_within root len text) h)
told root text (Ok (heads.Shutdown len)) h = rw (by_payload len (nat_lt (length text) (5 + len)) (nat_lt 0 len) _ _ refl h) refl
told root text (Err why) h = absurd (cc h)

zero_of : (len : ℕ) → Ok (heads.Shutdown len) ≡ ends_head → len ≡ 0
zero_of len h = cc

-- of its kind and its length
by_kind : (len kind : ℕ) (first second : Bool) → (kind == 1) ≡ first → (kind == 4) ≡ second → Ok (head_by kind len) ≡ ends_head → begins kind ≡ true → (kind ≡ 4) × (len ≡ 0)
by_kind len kind true second e f h b = absurd (cc (rw e at h))
by_kind len kind false true e f h b = (eqb-true kind 4 f, zero_of len (rw e at h))
by_kind len kind false false e f h b = absurd (cc (rw (e, f) at b))

by_tests : (len kind : ℕ) (b l : Bool) (x y : Bad) → begins kind ≡ b → (if not b then Err y else if l then Err x else Ok (head_by kind len)) ≡ ends_head → (kind ≡ 4) × (len ≡ 0)
by_tests len kind true true x y e h = absurd (cc h)
by_tests len kind true false x y e h = by_kind len kind (kind == 1) (kind == 4) refl refl h e
by_tests len kind false l x y e h = absurd (cc h)

zero_length : (a b c d e : ℕ) → length_in (a ∷ b ∷ c ∷ d ∷ e ∷ []) ≡ 0 → b ∷ c ∷ d ∷ e ∷ [] ≡ 0 ∷ 0 ∷ 0 ∷ 0 ∷ []
zero_length a b c d e h =
    let sum : b * 16777216 + c * 65536 + d * 256 + e ≡ 0 = h in
    let first : b ≡ 0 = omega (arith, sum) in
    let second : c ≡ 0 = omega (arith, sum) in
    let third : d ≡ 0 = omega (arith, sum) in
    let fourth : e ≡ 0 = omega (arith, sum) in
    rw (first, second, third, fourth) refl

five : (a b c d e : ℕ) → head_in (a ∷ b ∷ c ∷ d ∷ e ∷ []) ≡ ends_head → a ∷ b ∷ c ∷ d ∷ e ∷ [] ≡ shutdown
unfolding head_in
five a b c d e h =
    let len = length_in (a ∷ b ∷ c ∷ d ∷ e ∷ []) in
    let found = by_tests len a (begins a) (nat_lt longest_payload len) _ _ refl h in
    rw (found.0, zero_length a b c d e found.1) refl

by_size : (text : List ℕ) → length text ≤ 5 → head_in text ≡ ends_head → text ≡ shutdown
unfolding head_in
by_size [] le h = absurd (cc h)
by_size (a ∷ []) le h = absurd (cc h)
by_size (a ∷ b ∷ []) le h = absurd (cc h)
by_size (a ∷ b ∷ c ∷ []) le h = absurd (cc h)
by_size (a ∷ b ∷ c ∷ d ∷ []) le h = absurd (cc h)
by_size (a ∷ b ∷ c ∷ d ∷ e ∷ []) le h = five a b c d e h
by_size (a ∷ b ∷ c ∷ d ∷ e ∷ f ∷ rest) le h = absurd (omega (arith, le))

-- where no more was read than has to be, they are its frame
pub shutdown_read : (root text : List ℕ) → incoming_of root text ≡ ends_all → length text ≤ reach_of text → text ≡ shutdown
unfolding incoming_of
shutdown_read root text h reach =
    let header = told root text (head_in text) h in
    by_size text (rw header at reach) header
