-- Each step keeps the windows sound.
use Rattle.std.proofs.Common.{◌≡◌, ℕ, ◌+◌, ◌-◌, ◌/◌, ◌<◌, ◌≤◌, Bool, true, false, cond, not, ◌&&◌, ◌||◌, List, [], ◌∷◌, ◌++◌, length, get_or, set, refl, nat_lt, nat_eq, arith, length-set, Option, None, Some, Result, Ok, Err}
use Rattle.std.proofs.lemmas.Bool.{ltb-true, ltb-false, or_parts, and_parts, not-false}
use Rattle.std.proofs.lemmas.Bool.Decides.{nat_tests}
use Rattle.rx_h2frame.specs.declared.kind.Kind.{Kind}
use Rattle.rx_h2frame.specs.declared.kind.Kind.TheVariants.{Data, Headers, Priority, ResetStream, Settings, PushPromise, Ping, GoAway, WindowUpdate, Continuation, Unknown}
use Rattle.rx_h2frame.specs.Flags.{is_set}
use Rattle.rx_h2frame.specs.Frame.{Whole}
use Rattle.rx_h2conn.specs.declared.stream.Stream.{Stream}
use Rattle.rx_h2conn.specs.declared.settings.Asked.{Asked}
use Rattle.rx_hpack.specs.declared.fault.HpackFault.{HpackFault}
use Rattle.rx_hpack.specs.declared.fault.HpackFault.TheVariants.{BadIndex, BadInteger, BadHuffman, SizeUpdate, ListTooLarge, NoMemory}
use Rattle.rx_hpack.specs.Header.{Field}
use Rattle.rx_hpack.specs.Decoder.{State, Ready, Refused, Progress}
use Rattle.rx_h2conn.specs.Headers.{told_headers, headers_of, told_block, ended, on_headers, continued, continued_by, on_continuation}
use Rattle.rx_h2conn.specs.Session.{Session, Queued, Block, Headers as HeadersEvent}
use Rattle.rx_h2conn.specs.Streams.{failed, passed, is_open, fresh, stream_at, is_dropped, is_interrupted}
use Rattle.rx_h2conn.specs.Data.{passes_window, carried, data_events, heard, taken_data, on_data, owing, owe}
use Rattle.rx_h2conn.specs.Updates.{overflows, on_connection_update, on_stream_update, on_window_update}
use Rattle.rx_h2conn.specs.Ping.{is_flooded, acknowledged, ping_ack, on_ping}
use Rattle.rx_h2conn.specs.Settings.{widens, on_entries, on_settings}
use Rattle.rx_h2conn.specs.Ends.{reset_events, on_reset, on_go_away}
use Rattle.rx_h2conn.specs.Steps.{took_by, took, handed}
use Rattle.rx_h2conn.specs.Sound.{credits, waiting, IsSoundBy, IsSound}
use Rattle.rx_h2conn.proofs.ListLemmas.{each_set, get_or_within, either}

pub credits-append : (qs ps : List Queued) → credits (qs ++ ps) ≡ credits qs + credits ps
credits-append [] ps = omega arith
credits-append (q ∷ qs) ps = omega (arith, credits-append qs ps)

pub waiting-append : (k : ℕ) (qs ps : List Queued) → waiting k (qs ++ ps) ≡ waiting k qs + waiting k ps
waiting-append k [] ps = omega arith
waiting-append k (q ∷ qs) ps = omega (arith, waiting-append k qs ps)

pub open_at : (s : Session) (id : ℕ) → is_open s id ≡ true → id / 2 < length s.streams
open_at s id h = ltb-true (id / 2) (length s.streams) (and_parts _ _ h).1

-- a step that leaves receive windows, credit and events
pub record Leaves (old new : Session) : Type 0 where
  pub receive : new.receive ≡ old.receive
  pub owed : new.owed ≡ old.owed
  pub streams : new.streams ≡ old.streams
  pub events : new.events ≡ old.events

pub sound_left : (none : Stream) (s t : Session) → Leaves s t → IsSoundBy none s → IsSoundBy none t
sound_left none s t l h = record {
  connection = rw (l.receive, l.owed, l.events) h.connection;
  stream = rw (l.streams, l.events) h.stream;
  count = rw (l.streams) h.count;
}

pub sound_failed : (none : Stream) (s : Session) (code : ℕ) → IsSoundBy none s → IsSoundBy none (failed s code)
sound_failed none s code h = record { connection = h.connection; stream = h.stream; count = h.count }

-- events without credit
pub sound_told : (none : Stream) (s : Session) (ps : List Queued) → credits ps ≡ 0 → ((k : ℕ) → waiting k ps ≡ 0) → IsSoundBy none s → IsSoundBy none (record s { events = s.events ++ ps })
sound_told none s ps free each h = record {
  connection = omega (arith, h.connection, free, credits-append s.events ps);
  stream = λ k. omega (arith, h.stream k, each k, waiting-append k s.events ps);
  count = h.count;
}

-- a stream that keeps its receive window and its credit
-- a stream may be owed less
pub sound_less : (none : Stream) (s : Session) (i : ℕ) (t : Stream) → i < length s.streams → t.receive + t.owed ≤ (get_or s.streams i fresh).receive + (get_or s.streams i fresh).owed → IsSoundBy none s → IsSoundBy none (record s { streams = set s.streams i t })
sound_less none s i t small less h =
    let e = get_or_within none fresh s.streams i small in
    let old = h.stream i in
    record {
      connection = h.connection;
      stream = each_set none (λ k x. x.receive + x.owed + waiting k s.events ≤ 16777216) s.streams i t small (λ k other. h.stream k) (omega (arith, less, rw e at old));
      count = rw (length-set s.streams i t) h.count;
    }

pub sound_set : (none : Stream) (s : Session) (i : ℕ) (t : Stream) → i < length s.streams → t.receive + t.owed ≡ (get_or s.streams i fresh).receive + (get_or s.streams i fresh).owed → IsSoundBy none s → IsSoundBy none (record s { streams = set s.streams i t })
sound_set none s i t small same h = sound_less none s i t small (omega (arith, same)) h

pub sound_passed : (none : Stream) (s : Session) → IsSoundBy none s → IsSoundBy none (passed s)
unfolding passed
sound_passed none s h = either (IsSoundBy none) (is_interrupted s) (failed s 1) s (λ _. sound_failed none s 1 h) (λ _. h)

pub sound_ping : (s : Session) (f : Whole) → IsSound s → IsSound (on_ping s f)
unfolding on_ping
sound_ping s f h =
    either IsSound (not (is_set f.flags 1) && is_flooded s) _ _ (λ _. sound_failed fresh s 11 h) (λ _.
    either IsSound (is_interrupted s) _ _ (λ _. sound_failed fresh s 1 h) (λ _.
    either IsSound (is_set f.flags 1) _ _ (λ _. h) (λ _. sound_left fresh s (acknowledged s (ping_ack f)) (record { receive = refl; owed = refl; streams = refl; events = refl }) h)))

pub sound_entries : (s : Session) (a : Asked) → IsSound s → IsSound (on_entries s a)
unfolding on_entries
sound_entries s a h =
    either IsSound (widens s a) _ _ (λ _. sound_failed fresh s 3 h) (λ _.
    either IsSound (is_flooded s) _ _ (λ _. sound_failed fresh s 11 h) (λ _.
    either IsSound (is_interrupted s || a.is_wrong) _ _ (λ _. sound_failed fresh s 1 h) (λ _.
    sound_left fresh s _ (record { receive = refl; owed = refl; streams = refl; events = refl }) h)))

pub sound_settings : (s : Session) (f : Whole) → IsSound s → IsSound (on_settings s f)
unfolding on_settings
sound_settings s f h = either IsSound (is_set f.flags 1) _ _ (λ _. sound_passed fresh s h) (λ _. sound_entries s _ h)

pub sound_connection_update : (s : Session) (n : ℕ) → IsSound s → IsSound (on_connection_update s n)
unfolding on_connection_update
sound_connection_update s n h =
    either IsSound (nat_lt 2147483647 (s.send + n)) _ _ (λ _. sound_failed fresh s 3 h) (λ _.
    either IsSound (is_interrupted s || nat_eq n 0) _ _ (λ _. sound_failed fresh s 1 h) (λ _.
    sound_left fresh s _ (record { receive = refl; owed = refl; streams = refl; events = refl }) h))

pub sound_stream_update : (s : Session) (id n : ℕ) → IsSound s → IsSound (on_stream_update s id n)
unfolding on_stream_update
sound_stream_update s id n h =
    either IsSound (not (is_open s id)) _ _ (λ _. sound_failed fresh s 1 h) (λ opened.
    either IsSound (overflows s.initial (stream_at s id) n) _ _ (λ _. sound_failed fresh s 3 h) (λ _.
    either IsSound (is_interrupted s) _ _ (λ _. sound_failed fresh s 1 h) (λ _.
    either IsSound (stream_at s id).client_reset _ _ (λ _. h) (λ _.
    either IsSound (nat_eq n 0) _ _ (λ _. sound_failed fresh s 1 h) (λ _.
    sound_set fresh s (id / 2) _ (open_at s id (not-false _ opened)) refl h)))))

pub sound_window_update : (s : Session) (f : Whole) → IsSound s → IsSound (on_window_update s f)
unfolding on_window_update
sound_window_update s f h = either IsSound (nat_eq f.stream 0) _ _ (λ _. sound_connection_update s _ h) (λ _. sound_stream_update s f.stream _ h)

pub free_reset : (f : Whole) (done : Bool) → credits (reset_events f done) ≡ 0
free_reset f true = refl
free_reset f false = refl

pub cond_same : (b : Bool) → cond b 0 0 + 0 ≡ 0
cond_same true = refl
cond_same false = refl

pub none_waits_reset : (f : Whole) (done : Bool) (k : ℕ) → waiting k (reset_events f done) ≡ 0
none_waits_reset f true k = refl
none_waits_reset f false k = cond_same (nat_eq (f.stream / 2) k)

pub sound_reset : (s : Session) (f : Whole) → IsSound s → IsSound (on_reset s f)
unfolding on_reset
sound_reset s f h =
    either IsSound (is_interrupted s || not (is_open s f.stream)) _ _ (λ _. sound_failed fresh s 1 h) (λ fine.
    either IsSound (stream_at s f.stream).client_reset _ _ (λ _. h) (λ _.
    let small = open_at s f.stream (not-false _ (or_parts _ _ fine).1) in
    let t : Stream = record (stream_at s f.stream) { server_done = true; server_reset = true } in
    let ps = reset_events f (stream_at s f.stream).server_done in
    sound_told fresh (record s { streams = set s.streams (f.stream / 2) t }) ps (free_reset f _) (none_waits_reset f _) (sound_set fresh s (f.stream / 2) t small refl h)))

pub sound_go_away : (s : Session) (f : Whole) → IsSound s → IsSound (on_go_away s f)
unfolding on_go_away
sound_go_away s f h =
    either IsSound (is_interrupted s) _ _ (λ _. sound_failed fresh s 1 h) (λ _.
    sound_left fresh (record s { events = s.events ++ _ ∷ [] }) _ (record { receive = refl; owed = refl; streams = refl; events = refl }) (sound_told fresh s _ refl (λ k. cond_same (nat_eq 0 k)) h))

-- DATA
pub credits_data : (id : ℕ) (body : List ℕ) (credit : ℕ) (last : Bool) → credits (data_events id body credit last) ≤ credit
credits_data id body credit last = either (λ qs. credits qs ≤ credit) (nat_eq (length body) 0 && not last) _ _ (λ _. omega arith) (λ _. omega arith)

pub waiting_data : (k id : ℕ) (body : List ℕ) (credit : ℕ) (last : Bool) → waiting k (data_events id body credit last) ≤ credit
waiting_data k id body credit last = either (λ qs. waiting k qs ≤ credit) (nat_eq (length body) 0 && not last) _ _ (λ _. omega arith) (λ _. grind (arith, nat_tests))

pub waiting_other : (k id : ℕ) (body : List ℕ) (credit : ℕ) (last : Bool) → (k ≡ id / 2 → ⊥) → waiting k (data_events id body credit last) ≡ 0
waiting_other k id body credit last other = either (λ qs. waiting k qs ≡ 0) (nat_eq (length body) 0 && not last) _ _ (λ _. refl) (λ _. grind (arith, nat_tests))

pub carried_few : (f : Whole) → carried f ≤ f.size
carried_few f = either (λ n. n ≤ f.size) (nat_eq (length f.body) 0) 0 f.size (λ _. omega arith) (λ _. omega arith)

pub sound_taken : (s : Session) (f : Whole) (last : Bool) → is_open s f.stream ≡ true → f.size ≤ s.receive → f.size ≤ (stream_at s f.stream).receive → IsSound s → IsSound (taken_data s f last)
sound_taken s f last opened room stream_room h =
    let i = f.stream / 2 in
    let ps = data_events f.stream f.body (carried f) last in
    let t : Stream = heard (stream_at s f.stream) f.size (f.size - carried f) last in
    let few = carried_few f in
    let at_i : t.receive + t.owed + waiting i (s.events ++ ps) ≤ 16777216 = omega (arith, few, stream_room, h.stream i, waiting-append i s.events ps, waiting_data i f.stream f.body (carried f) last) in
    let others : (k : ℕ) → (k ≡ i → ⊥) → (get_or s.streams k fresh).receive + (get_or s.streams k fresh).owed + waiting k (s.events ++ ps) ≤ 16777216 =
    λ k other. omega (arith, h.stream k, waiting-append k s.events ps, waiting_other k f.stream f.body (carried f) last other) in
    record {
      connection = omega (arith, few, room, h.connection, credits-append s.events ps, credits_data f.stream f.body (carried f) last);
      stream = each_set fresh (λ k x. x.receive + x.owed + waiting k (s.events ++ ps) ≤ 16777216) s.streams i t (open_at s f.stream opened) others at_i;
      count = rw (length-set s.streams i t) h.count;
    }

-- what the test of the windows tells of bytes that aren't dropped
pub room_for : (s : Session) (f : Whole) → passes_window s f ≡ false → is_open s f.stream ≡ true → is_dropped (stream_at s f.stream) ≡ false → (f.size ≤ s.receive) × (f.size ≤ (stream_at s f.stream).receive)
room_for s f fits opened kept =
    let both = or_parts _ _ fits in
    let stream : nat_lt (stream_at s f.stream).receive f.size ≡ false = rw kept at (rw opened at both.1) in
    (ltb-false _ _ both.0, ltb-false _ _ stream)

pub sound_data : (s : Session) (f : Whole) → IsSound s → IsSound (on_data s f)
unfolding on_data
sound_data s f h =
    either IsSound (passes_window s f) _ _ (λ _. sound_failed fresh s 3 h) (λ fits.
    either IsSound (is_interrupted s || not (is_open s f.stream)) _ _ (λ _. sound_failed fresh s 1 h) (λ fine.
    either IsSound (is_dropped (stream_at s f.stream)) _ _
    (λ _. let room : f.size ≤ s.receive = ltb-false _ _ (or_parts _ _ fits).0 in record { connection = omega (arith, room, h.connection); stream = h.stream; count = h.count })
    (λ kept.
    let opened = not-false _ (or_parts _ _ fine).1 in
    let rooms = room_for s f fits opened kept in
    sound_taken s f (is_set f.flags 1) opened rooms.0 rooms.1 h)))

pub sound_told_headers : (s : Session) (id : ℕ) (list : List Field) (last : Bool) → IsSound s → IsSound (told_headers s id list last)
unfolding told_headers
sound_told_headers s id list last h =
    either IsSound (not (is_open s id)) _ _ (λ _. sound_failed fresh s 1 h) (λ opened.
    either IsSound (is_dropped (stream_at s id)) _ _ (λ _. h) (λ _.
    let small = open_at s id (not-false _ opened) in
    let t : Stream = record (stream_at s id) { server_done = (stream_at s id).server_done || last } in
    let q : Queued = record { event = HeadersEvent id list last; stream = id; credit = 0 } in
    sound_told fresh (record s { streams = set s.streams (id / 2) t }) (q ∷ []) refl (λ k. cond_same (nat_eq (id / 2) k)) (sound_set fresh s (id / 2) t small refl h)))

-- a decoder and a header block count for no window
pub sound_decoder : (s : Session) (d : State) → IsSound s → IsSound (record s { decoder = d })
sound_decoder s d h = record { connection = h.connection; stream = h.stream; count = h.count }

pub sound_sequence : (s : Session) (q : Option Block) → IsSound s → IsSound (record s { sequence = q })
sound_sequence s q h = record { connection = h.connection; stream = h.stream; count = h.count }

pub sound_refused : (s : Session) (d : State) (code : ℕ) → IsSound s → IsSound (failed (record s { decoder = d }) code)
sound_refused s d code h = record { connection = h.connection; stream = h.stream; count = h.count }

pub sound_block : (x : Result Progress HpackFault) (s : Session) (id : ℕ) (last : Bool) → IsSound s → IsSound (told_block x s id last)
sound_block (Ok read) s id last h = sound_told_headers (record s { decoder = Ready read.table }) id read.fields last (sound_decoder s (Ready read.table) h)
sound_block (Err ListTooLarge) s id last h = sound_refused s (Refused ListTooLarge) 11 h
sound_block (Err BadIndex) s id last h = sound_refused s (Refused BadIndex) 9 h
sound_block (Err BadInteger) s id last h = sound_refused s (Refused BadInteger) 9 h
sound_block (Err BadHuffman) s id last h = sound_refused s (Refused BadHuffman) 9 h
sound_block (Err SizeUpdate) s id last h = sound_refused s (Refused SizeUpdate) 9 h
sound_block (Err NoMemory) s id last h = sound_refused s (Refused NoMemory) 9 h

pub sound_ended : (s : Session) (id : ℕ) (block : List ℕ) (last : Bool) → IsSound s → IsSound (ended s id block last)
unfolding ended
sound_ended s id block last h = sound_block (headers_of s.decoder block) s id last h

pub sound_headers : (s : Session) (f : Whole) → IsSound s → IsSound (on_headers s f)
unfolding on_headers
sound_headers s f h =
    either IsSound (is_interrupted s) _ _ (λ _. sound_failed fresh s 1 h) (λ _.
    either IsSound (is_set f.flags 4) _ _ (λ _. sound_ended s f.stream f.body (is_set f.flags 1) h) (λ _.
    either IsSound (not (is_open s f.stream)) _ _ (λ _. sound_failed fresh s 1 h) (λ _. sound_sequence s _ h)))

pub sound_continued : (q : Block) (s : Session) (f : Whole) → IsSound s → IsSound (continued q s f)
unfolding continued
sound_continued q s f h =
    either IsSound (not (nat_eq q.stream f.stream)) _ _ (λ _. sound_failed fresh s 1 h) (λ _.
    either IsSound (nat_lt 65536 (length q.block + length f.body) || not (nat_lt q.count 1024)) _ _ (λ _. sound_failed fresh s 11 h) (λ _.
    either IsSound (is_set f.flags 4) _ _ (λ _. sound_ended s q.stream (q.block ++ f.body) q.last h) (λ _. sound_sequence s _ h)))

pub sound_continued_by : (q : Option Block) (s : Session) (f : Whole) → IsSound s → IsSound (continued_by q s f)
sound_continued_by None s f h = sound_failed fresh s 1 h
sound_continued_by (Some q) s f h = sound_continued q s f h

pub sound_continuation : (s : Session) (f : Whole) → IsSound s → IsSound (on_continuation s f)
unfolding on_continuation
sound_continuation s f h = sound_continued_by s.sequence (record s { sequence = None }) f (sound_sequence s None h)

pub sound_took_by : (k : Kind) (s : Session) (f : Whole) → IsSound s → IsSound (took_by k s f)
sound_took_by Data s f h = sound_data s f h
sound_took_by Headers s f h = sound_headers s f h
sound_took_by Priority s f h = sound_passed fresh s h
sound_took_by ResetStream s f h = sound_reset s f h
sound_took_by Settings s f h = sound_settings s f h
sound_took_by PushPromise s f h = sound_failed fresh s 1 h
sound_took_by Ping s f h = sound_ping s f h
sound_took_by GoAway s f h = sound_go_away s f h
sound_took_by WindowUpdate s f h = sound_window_update s f h
sound_took_by Continuation s f h = sound_continuation s f h
sound_took_by (Unknown byte) s f h = sound_passed fresh s h

pub sound_took : (s : Session) (f : Whole) → IsSound s → IsSound (took s f)
sound_took s f h = sound_took_by f.kind s f h

-- the credit of an event that was first and is handed out
pub sound_owed : (none : Stream) (s : Session) (q : Queued) (qs : List Queued) → s.events ≡ q ∷ qs → IsSoundBy none s → IsSoundBy none (owe (record s { events = qs }) q.stream q.credit)
unfolding owe
sound_owed none s q qs e h =
    let all : s.receive + s.owed + credits (q ∷ qs) ≤ 16777216 = rw e at h.connection in
    let each : (k : ℕ) → (get_or s.streams k none).receive + (get_or s.streams k none).owed + waiting k (q ∷ qs) ≤ 16777216 = rw e at h.stream in
    let i = q.stream / 2 in
    let t : Stream = owing (stream_at s q.stream) q.credit in
    either (IsSoundBy none) (is_open (record s { events = qs }) q.stream && not (stream_at s q.stream).client_reset) _ _
    (λ b.
    let small = open_at s q.stream (and_parts _ _ b).0 in
    let same = get_or_within none fresh s.streams i small in
    let there = each i in
    let at_i : t.receive + t.owed + waiting i qs ≤ 16777216 = grind (arith, nat_tests, rw same at there) in
    let others : (k : ℕ) → (k ≡ i → ⊥) → (get_or s.streams k none).receive + (get_or s.streams k none).owed + waiting k qs ≤ 16777216 = λ k other. omega (arith, each k) in
    record {
      connection = omega (arith, all);
      stream = each_set none (λ k x. x.receive + x.owed + waiting k qs ≤ 16777216) s.streams i t small others at_i;
      count = rw (length-set s.streams i t) h.count;
    })
    (λ _. record { connection = omega (arith, all); stream = λ k. omega (arith, each k); count = h.count })

pub sound_handed_by : (none : Stream) (s : Session) (qs : List Queued) → s.events ≡ qs → IsSoundBy none s → IsSoundBy none (handed s qs)
sound_handed_by none s [] e h = h
sound_handed_by none s (q ∷ qs) e h = sound_owed none s q qs e h

pub sound_handed : (none : Stream) (s : Session) → IsSoundBy none s → IsSoundBy none (handed s s.events)
sound_handed none s h = sound_handed_by none s s.events refl h
