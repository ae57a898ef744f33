-- Bytes that come later take back nothing.
use Rattle.std.proofs.Common.{◌≡◌, ℕ, ◌+◌, Bool, not, ◌||◌, List, [], ◌∷◌, ◌++◌, length, refl, ap, ◌∙◌, nat_eq, nat_lt, Option, None, Some, Result, Ok, Err}
use Rattle.rx_hpack.specs.declared.fault.HpackFault.{HpackFault}
use Rattle.rx_hpack.specs.Decoder.{Progress}
use Rattle.rx_h2frame.specs.declared.frame.FrameFault.{FrameFault}
use Rattle.rx_h2frame.specs.declared.kind.Kind.{Kind}
use Rattle.rx_h2frame.specs.declared.kind.Kind.TheVariants.{Data, Headers, Priority, ResetStream, Settings, PushPromise, Ping, GoAway, WindowUpdate, Continuation, Unknown}
use Rattle.rx_h2frame.specs.Flags.{is_set}
use Rattle.rx_h2frame.specs.Frame.{Whole, Seen, Complete, Lacks, next}
use Rattle.rx_h2conn.specs.Session.{Event, Block}
use Rattle.rx_h2conn.specs.State.{Extends}
use Rattle.rx_h2conn.specs.Streams.{has_sequence}
use Rattle.rx_h2conn.specs.Headers.{headers_of}
use Rattle.rx_h2conn.proofs.ListLemmas.{either, extends_same, extends_trans}
use Rattle.rx_h2conn.specs.Part.{Part, with_event, part_from, part}
use Rattle.rx_h2conn.specs.Incoming.{Incoming, telling, uninterrupted, block_read, headers_told, block_goes_on, continuation_told, frame_in, seen_in, rest_in, byte_in, incoming}
use Rattle.rx_h2conn.proofs.EventLemmas.{part_append}
use Rattle.rx_h2conn.proofs.HeardRunLemmas.{incoming_append}

abbrev pub Grows : Incoming → Incoming → Type 0
Grows t u = Extends t.events u.events

pub grows_same : (t : Incoming) → Grows t t
grows_same t = extends_same t.events

pub grows_told : (t : Incoming) (events : List Event) → Grows t (telling t events)
grows_told t events = (events, refl)

pub grows_uninterrupted : (t u : Incoming) → Grows t u → Grows t (uninterrupted t u)
grows_uninterrupted t u g = either (Grows t) (has_sequence t.sequence) _ _ (λ _. grows_same t) (λ _. g)

pub grows_read : (x : Result Progress HpackFault) (t : Incoming) (id : ℕ) (last : Bool) → Grows t (block_read x t id last)
grows_read (Ok read) t id last = (_, refl)
grows_read (Err e) t id last = grows_same t

pub grows_headers : (t : Incoming) (f : Whole) → Grows t (headers_told t f)
grows_headers t f = either (Grows t) (is_set f.flags 4) _ _ (λ _. grows_read (headers_of t.decoder f.body) t f.stream (is_set f.flags 1)) (λ _. grows_same t)

pub grows_block : (q : Block) (t : Incoming) (f : Whole) → Grows t (block_goes_on q t f)
grows_block q t f =
    either (Grows t) (not (nat_eq q.stream f.stream)) _ _ (λ _. grows_same t) (λ _.
    either (Grows t) (nat_lt 65536 (length q.block + length f.body) || not (nat_lt q.count 1024)) _ _ (λ _. grows_same t) (λ _.
    either (Grows t) (is_set f.flags 4) _ _ (λ _. grows_read (headers_of t.decoder (q.block ++ f.body)) t q.stream q.last) (λ _. grows_same t)))

pub grows_continuation : (o : Option Block) (t : Incoming) (f : Whole) → Grows t (continuation_told o t f)
grows_continuation None t f = grows_same t
grows_continuation (Some q) t f = grows_block q (record t { sequence = None }) f

pub grows_frame : (k : Kind) (t : Incoming) (f : Whole) → Grows t (frame_in k t f)
grows_frame Data t f = grows_uninterrupted t _ (grows_told t _)
grows_frame Headers t f = grows_uninterrupted t _ (grows_headers t f)
grows_frame Priority t f = grows_uninterrupted t _ (grows_same t)
grows_frame ResetStream t f = grows_uninterrupted t _ (grows_told t _)
grows_frame Settings t f = grows_uninterrupted t _ (grows_same t)
grows_frame PushPromise t f = grows_same t
grows_frame Ping t f = grows_uninterrupted t _ (grows_same t)
grows_frame GoAway t f = grows_uninterrupted t _ (grows_told t _)
grows_frame WindowUpdate t f = grows_uninterrupted t _ (grows_same t)
grows_frame Continuation t f = grows_continuation t.sequence t f
grows_frame (Unknown b) t f = grows_uninterrupted t _ (grows_same t)

pub grows_judged : (x : Result Seen FrameFault) (t : Incoming) → Grows t (seen_in t x)
grows_judged (Err e) t = grows_same t
grows_judged (Ok (Lacks n)) t = grows_same t
grows_judged (Ok (Complete f)) t = grows_frame f.kind t f

pub grows_settled : (t : Incoming) → Grows t (rest_in t)
unfolding rest_in
grows_settled t = grows_judged (next 16384 t.rest) t

pub grows_byte : (t : Incoming) (b : ℕ) → Grows t (byte_in t b)
unfolding byte_in
grows_byte t b = either (Grows t) t.broken _ _ (λ _. grows_same t) (λ _. grows_settled (record t { rest = t.rest ++ b ∷ [] }))

pub grows_incoming : (p : List ℕ) (t : Incoming) → Grows t (incoming t p)
grows_incoming [] t = grows_same t
grows_incoming (b ∷ p) t = extends_trans t.events (byte_in t b).events (incoming (byte_in t b) p).events (grows_byte t b) (grows_incoming p (byte_in t b))

-- the part of a stream grows likewise
pub part_grows : (events : List Event) (p : Part) (id : ℕ) → Extends p.events (part_from p id events).events
part_grows [] p id = extends_same p.events
part_grows (e ∷ events) p id = extends_trans p.events (with_event p id e).events (part_from (with_event p id e) id events).events (_, refl) (part_grows events (with_event p id e) id)

pub part_later : (id : ℕ) (t : Incoming) (front later : List ℕ) → Extends (part id (incoming t front).events).events (part id (incoming t (front ++ later)).events).events
part_later id t front later =
    let grown = grows_incoming later (incoming t front) in
    let whole : (incoming t (front ++ later)).events ≡ (incoming t front).events ++ grown.0 = ap (λ (x : Incoming). x.events) (incoming_append t front later) ∙ grown.1 in
    let split : part id (incoming t (front ++ later)).events ≡ part_from (part id (incoming t front).events) id grown.0 = ap (part id) whole ∙ part_append _ id (incoming t front).events grown.0 in
    let more = part_grows grown.0 (part id (incoming t front).events) id in
    (more.0, ap (λ (x : Part). x.events) split ∙ more.1)
