-- What the server sends, events and output leave the streams to the client.
use Rattle.std.proofs.Common.{◌≡◌, ℕ, ◌+◌, ◌/◌, ◌<◌, zero, suc, Bool, true, not, ◌&&◌, ◌||◌, List, [], ◌∷◌, length, get_or, set, map, refl, ◌∙◌, nat_lt, nat_eq, arith, length-set, Option, None, Some, Result, Ok, Err, OnOk, OnErr}
use Rattle.std.proofs.lemmas.Bool.{or_parts, and_parts, not-false}
use Rattle.rx_hpack.specs.declared.fault.HpackFault.{HpackFault}
use Rattle.rx_hpack.specs.declared.fault.HpackFault.TheVariants.{BadIndex, BadInteger, BadHuffman, SizeUpdate, ListTooLarge, NoMemory}
use Rattle.rx_hpack.specs.Header.{Field}
use Rattle.rx_hpack.specs.Decoder.{Ready, Progress}
use Rattle.rx_h2frame.specs.declared.frame.FrameFault.{FrameFault}
use Rattle.rx_h2frame.specs.declared.kind.Kind.{Kind}
use Rattle.rx_h2frame.specs.declared.kind.Kind.TheVariants.{Data, Headers, Priority, ResetStream, Settings, PushPromise, Ping, GoAway, WindowUpdate, Continuation, Unknown}
use Rattle.rx_h2frame.specs.Flags.{is_set}
use Rattle.rx_h2frame.specs.Frame.{Whole, Seen, Complete, Lacks, next}
use Rattle.rx_h2conn.specs.declared.fault.ConnFault.{ConnFault}
use Rattle.rx_h2conn.specs.declared.fault.ConnFault.TheVariants.{Protocol, GoneAway, StreamsSpent, NoMemory as Starved}
use Rattle.rx_h2conn.specs.declared.settings.Asked.{Asked}
use Rattle.rx_h2conn.specs.declared.stream.Stream.{Stream}
use Rattle.rx_h2conn.specs.Session.{Session, Reading, Queued, Block}
use Rattle.rx_h2conn.specs.Streams.{failed, passed, fresh, is_open, stream_at, is_dropped, is_interrupted, KeepsHeld}
use Rattle.rx_h2conn.specs.Data.{passes_window, taken_data, on_data, owe}
use Rattle.rx_h2conn.specs.Headers.{told_headers, headers_of, told_block, ended, on_headers, continued, continued_by, on_continuation}
use Rattle.rx_h2conn.specs.Updates.{overflows, on_connection_update, on_stream_update, on_window_update}
use Rattle.rx_h2conn.specs.Ping.{is_flooded, on_ping}
use Rattle.rx_h2conn.specs.Settings.{widens, on_entries, on_settings}
use Rattle.rx_h2conn.specs.Ends.{on_reset, on_go_away}
use Rattle.rx_h2conn.specs.State.{UnlessStarved}
use Rattle.rx_h2conn.specs.Steps.{took_by, code_of, judged, settled, more, unless_failed, byte, fed, handed, FeedsAt}
use Rattle.rx_h2conn.specs.Output.{told, emptied}
use Rattle.rx_h2conn.proofs.ListLemmas.{either}
use Rattle.rx_h2conn.proofs.SoundLemmas.{open_at}
use Rattle.rx_h2conn.proofs.ConnLemmas.{length_told}

-- the two are the same to the client, and one that the server has reset stays that
pub record SameToClient (x y : Stream) : Type 0 where
  pub kept : x.client_reset ≡ y.client_reset
  pub done : x.client_done ≡ y.client_done
  pub gone : y.server_reset ≡ true → x.server_reset ≡ true

pub same_set : (xs : List Stream) (i k : ℕ) (t : Stream) → i < length xs → SameToClient t (get_or xs i fresh) → SameToClient (get_or (set xs i t) k fresh) (get_or xs k fresh)
same_set [] i k t small h = absurd (omega arith)
same_set (x ∷ xs) zero zero t small h = h
same_set (x ∷ xs) zero (suc k) t small h = record { kept = refl; done = refl; gone = λ r. r }
same_set (x ∷ xs) (suc i) zero t small h = record { kept = refl; done = refl; gone = λ r. r }
same_set (x ∷ xs) (suc i) (suc k) t small h = same_set xs i k t (omega arith) h

pub same_told : (xs : List Stream) (k : ℕ) → SameToClient (get_or (map told xs) k fresh) (get_or xs k fresh)
same_told [] k = record { kept = refl; done = refl; gone = λ r. r }
same_told (x ∷ xs) zero = record { kept = refl; done = refl; gone = λ r. r }
same_told (x ∷ xs) (suc k) = same_told xs k

-- as many streams, each the same to the client
pub record Leaves (old new : Session) : Type 0 where
  pub count : length new.streams ≡ length old.streams
  pub each : (k : ℕ) → SameToClient (get_or new.streams k fresh) (get_or old.streams k fresh)

pub leaves_same : (s t : Session) → t.streams ≡ s.streams → Leaves s t
leaves_same s t e = record { count = rw e refl; each = λ k. rw e (record { kept = refl; done = refl; gone = λ r. r }) }

pub leaves_trans : (a b c : Session) → Leaves a b → Leaves b c → Leaves a c
leaves_trans a b c p q = record {
  count = q.count ∙ p.count;
  each = λ k. record { kept = (q.each k).kept ∙ (p.each k).kept; done = (q.each k).done ∙ (p.each k).done; gone = λ r. (q.each k).gone ((p.each k).gone r) };
}

pub leaves_set : (s t : Session) (id : ℕ) (x : Stream) → is_open s id ≡ true → SameToClient x (stream_at s id) → t.streams ≡ set s.streams (id / 2) x → Leaves s t
leaves_set s t id x opened same e = record {
  count = rw e (length-set s.streams (id / 2) x);
  each = λ k. rw e (same_set s.streams (id / 2) k x (open_at s id opened) same);
}

pub leaves_held : (s t : Session) → Leaves s t → KeepsHeld s t
leaves_held s t l id over h =
    let count = l.count in
    record {
      opened = rw count h.opened;
      kept = (l.each (id / 2)).kept ∙ h.kept;
      done = (l.each (id / 2)).done ∙ h.done;
    }

-- the frames
pub leaves_failed : (s : Session) (code : ℕ) → Leaves s (failed s code)
leaves_failed s code = leaves_same s (failed s code) refl

pub leaves_passed : (s : Session) → Leaves s (passed s)
unfolding passed
leaves_passed s = either (Leaves s) (is_interrupted s) _ _ (λ _. leaves_failed s 1) (λ _. leaves_same s s refl)

pub leaves_data : (s : Session) (f : Whole) → Leaves s (on_data s f)
unfolding on_data
leaves_data s f =
    either (Leaves s) (passes_window s f) _ _ (λ _. leaves_failed s 3) (λ _.
    either (Leaves s) (is_interrupted s || not (is_open s f.stream)) _ _ (λ _. leaves_failed s 1) (λ fine.
    either (Leaves s) (is_dropped (stream_at s f.stream)) _ _ (λ _. leaves_same s _ refl) (λ _.
    leaves_set s (taken_data s f (is_set f.flags 1)) f.stream _ (not-false _ (or_parts _ _ fine).1) (record { kept = refl; done = refl; gone = λ r. r }) refl)))

pub leaves_reset : (s : Session) (f : Whole) → Leaves s (on_reset s f)
unfolding on_reset
leaves_reset s f =
    either (Leaves s) (is_interrupted s || not (is_open s f.stream)) _ _ (λ _. leaves_failed s 1) (λ fine.
    either (Leaves s) (stream_at s f.stream).client_reset _ _ (λ _. leaves_same s s refl) (λ _.
    leaves_set s _ f.stream _ (not-false _ (or_parts _ _ fine).1) (record { kept = refl; done = refl; gone = λ _. refl }) refl))

pub leaves_go_away : (s : Session) (f : Whole) → Leaves s (on_go_away s f)
unfolding on_go_away
leaves_go_away s f = either (Leaves s) (is_interrupted s) _ _ (λ _. leaves_failed s 1) (λ _. leaves_same s _ refl)

pub leaves_connection_update : (s : Session) (n : ℕ) → Leaves s (on_connection_update s n)
unfolding on_connection_update
leaves_connection_update s n =
    either (Leaves s) (nat_lt 2147483647 (s.send + n)) _ _ (λ _. leaves_failed s 3) (λ _.
    either (Leaves s) (is_interrupted s || nat_eq n 0) _ _ (λ _. leaves_failed s 1) (λ _. leaves_same s _ refl))

pub leaves_stream_update : (s : Session) (id n : ℕ) → Leaves s (on_stream_update s id n)
unfolding on_stream_update
leaves_stream_update s id n =
    either (Leaves s) (not (is_open s id)) _ _ (λ _. leaves_failed s 1) (λ opened.
    either (Leaves s) (overflows s.initial (stream_at s id) n) _ _ (λ _. leaves_failed s 3) (λ _.
    either (Leaves s) (is_interrupted s) _ _ (λ _. leaves_failed s 1) (λ _.
    either (Leaves s) (stream_at s id).client_reset _ _ (λ _. leaves_same s s refl) (λ _.
    either (Leaves s) (nat_eq n 0) _ _ (λ _. leaves_failed s 1) (λ _.
    leaves_set s _ id _ (not-false _ opened) (record { kept = refl; done = refl; gone = λ r. r }) refl)))))

pub leaves_window_update : (s : Session) (f : Whole) → Leaves s (on_window_update s f)
unfolding on_window_update
leaves_window_update s f = either (Leaves s) (nat_eq f.stream 0) _ _ (λ _. leaves_connection_update s _) (λ _. leaves_stream_update s f.stream _)

pub leaves_told : (s : Session) (id : ℕ) (list : List Field) (last : Bool) → Leaves s (told_headers s id list last)
unfolding told_headers
leaves_told s id list last =
    either (Leaves s) (not (is_open s id)) _ _ (λ _. leaves_failed s 1) (λ opened.
    either (Leaves s) (is_dropped (stream_at s id)) _ _ (λ _. leaves_same s s refl) (λ _.
    leaves_set s _ id _ (not-false _ opened) (record { kept = refl; done = refl; gone = λ r. r }) refl))

pub leaves_block : (x : Result Progress HpackFault) (s : Session) (id : ℕ) (last : Bool) → Leaves s (told_block x s id last)
leaves_block (Ok read) s id last = leaves_trans s (record s { decoder = Ready read.table }) _ (leaves_same s (record s { decoder = Ready read.table }) refl) (leaves_told (record s { decoder = Ready read.table }) id read.fields last)
leaves_block (Err ListTooLarge) s id last = leaves_same s _ refl
leaves_block (Err BadIndex) s id last = leaves_same s _ refl
leaves_block (Err BadInteger) s id last = leaves_same s _ refl
leaves_block (Err BadHuffman) s id last = leaves_same s _ refl
leaves_block (Err SizeUpdate) s id last = leaves_same s _ refl
leaves_block (Err NoMemory) s id last = leaves_same s _ refl

pub leaves_ended : (s : Session) (id : ℕ) (block : List ℕ) (last : Bool) → Leaves s (ended s id block last)
unfolding ended
leaves_ended s id block last = leaves_block (headers_of s.decoder block) s id last

pub leaves_headers : (s : Session) (f : Whole) → Leaves s (on_headers s f)
unfolding on_headers
leaves_headers s f =
    either (Leaves s) (is_interrupted s) _ _ (λ _. leaves_failed s 1) (λ _.
    either (Leaves s) (is_set f.flags 4) _ _ (λ _. leaves_ended s f.stream f.body (is_set f.flags 1)) (λ _.
    either (Leaves s) (not (is_open s f.stream)) _ _ (λ _. leaves_failed s 1) (λ _. leaves_same s _ refl)))

pub leaves_continued : (q : Block) (s : Session) (f : Whole) → Leaves s (continued q s f)
unfolding continued
leaves_continued q s f =
    either (Leaves s) (not (nat_eq q.stream f.stream)) _ _ (λ _. leaves_failed s 1) (λ _.
    either (Leaves s) (nat_lt 65536 (length q.block + length f.body) || not (nat_lt q.count 1024)) _ _ (λ _. leaves_failed s 11) (λ _.
    either (Leaves s) (is_set f.flags 4) _ _ (λ _. leaves_ended s q.stream _ q.last) (λ _. leaves_same s _ refl)))

pub leaves_continued_by : (q : Option Block) (s : Session) (f : Whole) → Leaves s (continued_by q s f)
leaves_continued_by None s f = leaves_failed s 1
leaves_continued_by (Some q) s f = leaves_continued q s f

pub leaves_continuation : (s : Session) (f : Whole) → Leaves s (on_continuation s f)
unfolding on_continuation
leaves_continuation s f = leaves_trans s (record s { sequence = None }) _ (leaves_same s (record s { sequence = None }) refl) (leaves_continued_by s.sequence (record s { sequence = None }) f)

pub leaves_ping : (s : Session) (f : Whole) → Leaves s (on_ping s f)
unfolding on_ping
leaves_ping s f =
    either (Leaves s) (not (is_set f.flags 1) && is_flooded s) _ _ (λ _. leaves_failed s 11) (λ _.
    either (Leaves s) (is_interrupted s) _ _ (λ _. leaves_failed s 1) (λ _.
    either (Leaves s) (is_set f.flags 1) _ _ (λ _. leaves_same s s refl) (λ _. leaves_same s _ refl)))

pub leaves_entries : (s : Session) (a : Asked) → Leaves s (on_entries s a)
unfolding on_entries
leaves_entries s a =
    either (Leaves s) (widens s a) _ _ (λ _. leaves_failed s 3) (λ _.
    either (Leaves s) (is_flooded s) _ _ (λ _. leaves_failed s 11) (λ _.
    either (Leaves s) (is_interrupted s || a.is_wrong) _ _ (λ _. leaves_failed s 1) (λ _. leaves_same s _ refl)))

pub leaves_settings : (s : Session) (f : Whole) → Leaves s (on_settings s f)
unfolding on_settings
leaves_settings s f = either (Leaves s) (is_set f.flags 1) _ _ (λ _. leaves_passed s) (λ _. leaves_entries s _)

pub leaves_took_by : (k : Kind) (s : Session) (f : Whole) → Leaves s (took_by k s f)
leaves_took_by Data s f = leaves_data s f
leaves_took_by Headers s f = leaves_headers s f
leaves_took_by Priority s f = leaves_passed s
leaves_took_by ResetStream s f = leaves_reset s f
leaves_took_by Settings s f = leaves_settings s f
leaves_took_by PushPromise s f = leaves_failed s 1
leaves_took_by Ping s f = leaves_ping s f
leaves_took_by GoAway s f = leaves_go_away s f
leaves_took_by WindowUpdate s f = leaves_window_update s f
leaves_took_by Continuation s f = leaves_continuation s f
leaves_took_by (Unknown byte) s f = leaves_passed s

-- any bytes
pub leaves_judged : (r : Reading) (x : Result Seen FrameFault) → Leaves r.state (judged r x).state
leaves_judged r (Err e) = leaves_failed r.state (code_of e)
leaves_judged r (Ok (Lacks n)) = leaves_same r.state r.state refl
leaves_judged r (Ok (Complete f)) = leaves_took_by f.kind r.state f

pub leaves_settled : (r : Reading) → Leaves r.state (settled r).state
unfolding settled
leaves_settled r = leaves_judged r (next 16384 r.rest)

pub leaves_unless : (o : Option ConnFault) (r n : Reading) → Leaves r.state n.state → Leaves r.state (unless_failed o r n).state
leaves_unless None r n l = l
leaves_unless (Some e) r n l = leaves_same r.state r.state refl

pub leaves_byte : (r : Reading) (b : ℕ) → Leaves r.state (byte r b).state
unfolding byte
leaves_byte r b = leaves_unless r.state.fault r (settled (more r (b ∷ []))) (leaves_settled (more r (b ∷ [])))

pub leaves_fed : (r : Reading) (p : List ℕ) → Leaves r.state (fed r p).state
leaves_fed r [] = leaves_same r.state r.state refl
leaves_fed r (b ∷ p) = leaves_trans r.state (byte r b).state (fed (byte r b) p).state (leaves_byte r b) (leaves_fed (byte r b) p)

pub held_fed : (old new : Reading) (p : List ℕ) → new ≡ fed old p → KeepsHeld old.state new.state
held_fed old new p is = rw is (leaves_held old.state (fed old p).state (leaves_fed old p))

pub held_same : (old new : Reading) (r : Result (Unit {0}) ConnFault) → new ≡ old → UnlessStarved r (KeepsHeld old.state new.state)
held_same old new (Ok u) is = rw is (λ id over h. h)
held_same old new (Err Starved) is = tt
held_same old new (Err (Protocol code)) is = rw is (λ id over h. h)
held_same old new (Err (GoneAway last)) is = rw is (λ id over h. h)
held_same old new (Err StreamsSpent) is = rw is (λ id over h. h)

pub held_feeds : (o : Option ConnFault) (old new : Reading) (p : List ℕ) (r : Result (Unit {0}) ConnFault) → FeedsAt o old p new r → UnlessStarved r (KeepsHeld old.state new.state)
held_feeds (Some e) old new p r d = held_same old new r d.0
held_feeds None old new p (Ok u) d = held_fed old new p d.0
held_feeds None old new p (Err Starved) d = tt
held_feeds None old new p (Err (Protocol code)) d = held_fed old new p d.0
held_feeds None old new p (Err (GoneAway last)) d = held_fed old new p d.0
held_feeds None old new p (Err StreamsSpent) d = held_fed old new p d.0

-- events and output
pub leaves_owe : (s : Session) (id credit : ℕ) → Leaves s (owe s id credit)
unfolding owe
leaves_owe s id credit =
    either (Leaves s) (is_open s id && not (stream_at s id).client_reset) _ _
    (λ b. leaves_set s _ id _ (and_parts _ _ b).0 (record { kept = refl; done = refl; gone = λ r. r }) refl)
    (λ _. leaves_same s _ refl)

pub leaves_handed : (s : Session) (qs : List Queued) → Leaves s (handed s qs)
leaves_handed s [] = leaves_same s s refl
leaves_handed s (q ∷ qs) = leaves_trans s (record s { events = qs }) _ (leaves_same s (record s { events = qs }) refl) (leaves_owe (record s { events = qs }) q.stream q.credit)

pub held_handed : (s : Session) → KeepsHeld s (handed s s.events)
held_handed s = leaves_held s (handed s s.events) (leaves_handed s s.events)

pub leaves_emptied : (s : Session) → Leaves s (emptied s)
leaves_emptied s = record { count = length_told s.streams; each = same_told s.streams }

pub held_taken : {A E : Type 0} (old new : Session) (r : Result A E) → OnOk r (new ≡ emptied old) → OnErr r (new ≡ old) → KeepsHeld old new
held_taken old new (Ok v) d e = rw d (leaves_held old (emptied old) (leaves_emptied old))
held_taken old new (Err v) d e = rw e (λ id over h. h)
