-- What leaves the windows that the server gave as they were.
use Rattle.std.proofs.Common.{◌≡◌, ℕ, ◌+◌, ◌/◌, zero, suc, Bool, not, ◌&&◌, ◌||◌, List, [], ◌∷◌, ◌++◌, length, get_or, set, map, refl, ◌∙◌, Option, None, Some, Result, Ok, Err, nat_lt, nat_eq}
use Rattle.rx_hpack.specs.declared.fault.HpackFault.{HpackFault}
use Rattle.rx_hpack.specs.declared.fault.HpackFault.TheVariants.{BadIndex, BadInteger, BadHuffman, SizeUpdate, ListTooLarge, NoMemory}
use Rattle.rx_hpack.specs.Header.{Field}
use Rattle.rx_hpack.specs.Decoder.{Ready, Progress}
use Rattle.rx_h2frame.specs.Flags.{is_set}
use Rattle.rx_h2frame.specs.Frame.{Whole}
use Rattle.rx_h2conn.specs.declared.fault.ConnFault.{ConnFault}
use Rattle.rx_h2conn.specs.declared.settings.Asked.{Asked}
use Rattle.rx_h2conn.specs.declared.stream.Stream.{Stream}
use Rattle.rx_h2conn.specs.declared.window.Window.{Window}
use Rattle.rx_h2conn.specs.Session.{Session, Queued, Block}
use Rattle.rx_h2conn.specs.Streams.{failed, passed, fresh, is_open, stream_at, is_dropped, is_interrupted}
use Rattle.rx_h2conn.specs.Data.{passes_window, taken_data, on_data, owe}
use Rattle.rx_h2conn.specs.Headers.{told_headers, headers_of, told_block, ended, on_headers, continued, continued_by, on_continuation}
use Rattle.rx_h2conn.specs.Updates.{overflows, on_connection_update, on_stream_update}
use Rattle.rx_h2conn.specs.Ping.{is_flooded, on_ping}
use Rattle.rx_h2conn.specs.Settings.{widens, on_entries, on_settings}
use Rattle.rx_h2conn.specs.Ends.{on_reset, on_go_away}
use Rattle.rx_h2conn.specs.Steps.{handed}
use Rattle.rx_h2conn.specs.Open.{opened}
use Rattle.rx_h2conn.specs.Output.{reset, told, emptied}
use Rattle.rx_h2conn.specs.History.{unless}
use Rattle.rx_h2conn.proofs.ListLemmas.{either}

-- the window of the stream at a place, that of a new one where none is
abbrev pub window_at : List Stream → ℕ → Window
window_at ts k = (get_or ts k fresh).send

pub window_set : (ts : List Stream) (i k : ℕ) (t : Stream) → t.send ≡ window_at ts i → window_at (set ts i t) k ≡ window_at ts k
window_set [] i k t same = refl
window_set (x ∷ ts) zero zero t same = same
window_set (x ∷ ts) zero (suc k) t same = refl
window_set (x ∷ ts) (suc i) zero t same = refl
window_set (x ∷ ts) (suc i) (suc k) t same = window_set ts i k t same

pub window_pushed : (ts : List Stream) (k : ℕ) (t : Stream) → t.send ≡ fresh.send → window_at (ts ++ t ∷ []) k ≡ window_at ts k
window_pushed [] zero t same = same
window_pushed [] (suc k) t same = refl
window_pushed (x ∷ ts) zero t same = refl
window_pushed (x ∷ ts) (suc k) t same = window_pushed ts k t same

pub window_told : (ts : List Stream) (k : ℕ) → window_at (map told ts) k ≡ window_at ts k
window_told [] k = refl
window_told (x ∷ ts) zero = refl
window_told (x ∷ ts) (suc k) = window_told ts k

-- the windows of the connection and of each stream are as they were
pub record Stays (old new : Session) : Type 0 where
  pub connection : new.send ≡ old.send
  pub streams : (k : ℕ) → window_at new.streams k ≡ window_at old.streams k

pub stays_same : (s t : Session) → t.send ≡ s.send → t.streams ≡ s.streams → Stays s t
stays_same s t c e = record { connection = c; streams = λ k. rw e refl }

pub stays_set : (s t : Session) (i : ℕ) (x : Stream) → x.send ≡ window_at s.streams i → t.send ≡ s.send → t.streams ≡ set s.streams i x → Stays s t
stays_set s t i x same c e = record { connection = c; streams = λ k. rw e (window_set s.streams i k x same) }

pub stays_trans : (a b c : Session) → Stays a b → Stays b c → Stays a c
stays_trans a b c p q = record { connection = q.connection ∙ p.connection; streams = λ k. q.streams k ∙ p.streams k }

-- the frames but WINDOW_UPDATE
pub stays_failed : (s : Session) (code : ℕ) → Stays s (failed s code)
stays_failed s code = stays_same s (failed s code) refl refl

pub stays_passed : (s : Session) → Stays s (passed s)
unfolding passed
stays_passed s = either (Stays s) (is_interrupted s) _ _ (λ _. stays_failed s 1) (λ _. stays_same s s refl refl)

pub stays_data : (s : Session) (f : Whole) → Stays s (on_data s f)
unfolding on_data
stays_data s f =
    either (Stays s) (passes_window s f) _ _ (λ _. stays_failed s 3) (λ _.
    either (Stays s) (is_interrupted s || not (is_open s f.stream)) _ _ (λ _. stays_failed s 1) (λ _.
    either (Stays s) (is_dropped (stream_at s f.stream)) _ _ (λ _. stays_same s _ refl refl) (λ _.
    stays_set s (taken_data s f (is_set f.flags 1)) (f.stream / 2) _ refl refl refl)))

pub stays_reset : (s : Session) (f : Whole) → Stays s (on_reset s f)
unfolding on_reset
stays_reset s f =
    either (Stays s) (is_interrupted s || not (is_open s f.stream)) _ _ (λ _. stays_failed s 1) (λ _.
    either (Stays s) (stream_at s f.stream).client_reset _ _ (λ _. stays_same s s refl refl) (λ _.
    stays_set s _ (f.stream / 2) _ refl refl refl))

pub stays_go_away : (s : Session) (f : Whole) → Stays s (on_go_away s f)
unfolding on_go_away
stays_go_away s f = either (Stays s) (is_interrupted s) _ _ (λ _. stays_failed s 1) (λ _. stays_same s _ refl refl)

pub stays_told : (s : Session) (id : ℕ) (list : List Field) (last : Bool) → Stays s (told_headers s id list last)
unfolding told_headers
stays_told s id list last =
    either (Stays s) (not (is_open s id)) _ _ (λ _. stays_failed s 1) (λ _.
    either (Stays s) (is_dropped (stream_at s id)) _ _ (λ _. stays_same s s refl refl) (λ _. stays_set s _ (id / 2) _ refl refl refl))

pub stays_block : (x : Result Progress HpackFault) (s : Session) (id : ℕ) (last : Bool) → Stays s (told_block x s id last)
stays_block (Ok read) s id last = stays_trans s (record s { decoder = Ready read.table }) _ (stays_same s (record s { decoder = Ready read.table }) refl refl) (stays_told (record s { decoder = Ready read.table }) id read.fields last)
stays_block (Err ListTooLarge) s id last = stays_same s _ refl refl
stays_block (Err BadIndex) s id last = stays_same s _ refl refl
stays_block (Err BadInteger) s id last = stays_same s _ refl refl
stays_block (Err BadHuffman) s id last = stays_same s _ refl refl
stays_block (Err SizeUpdate) s id last = stays_same s _ refl refl
stays_block (Err NoMemory) s id last = stays_same s _ refl refl

pub stays_ended : (s : Session) (id : ℕ) (block : List ℕ) (last : Bool) → Stays s (ended s id block last)
unfolding ended
stays_ended s id block last = stays_block (headers_of s.decoder block) s id last

pub stays_headers : (s : Session) (f : Whole) → Stays s (on_headers s f)
unfolding on_headers
stays_headers s f =
    either (Stays s) (is_interrupted s) _ _ (λ _. stays_failed s 1) (λ _.
    either (Stays s) (is_set f.flags 4) _ _ (λ _. stays_ended s f.stream f.body (is_set f.flags 1)) (λ _.
    either (Stays s) (not (is_open s f.stream)) _ _ (λ _. stays_failed s 1) (λ _. stays_same s _ refl refl)))

pub stays_continued : (q : Block) (s : Session) (f : Whole) → Stays s (continued q s f)
unfolding continued
stays_continued q s f =
    either (Stays s) (not (nat_eq q.stream f.stream)) _ _ (λ _. stays_failed s 1) (λ _.
    either (Stays s) (nat_lt 65536 (length q.block + length f.body) || not (nat_lt q.count 1024)) _ _ (λ _. stays_failed s 11) (λ _.
    either (Stays s) (is_set f.flags 4) _ _ (λ _. stays_ended s q.stream (q.block ++ f.body) q.last) (λ _. stays_same s _ refl refl)))

pub stays_continued_by : (q : Option Block) (s : Session) (f : Whole) → Stays s (continued_by q s f)
stays_continued_by None s f = stays_failed s 1
stays_continued_by (Some q) s f = stays_continued q s f

pub stays_continuation : (s : Session) (f : Whole) → Stays s (on_continuation s f)
unfolding on_continuation
stays_continuation s f = stays_trans s (record s { sequence = None }) _ (stays_same s (record s { sequence = None }) refl refl) (stays_continued_by s.sequence (record s { sequence = None }) f)

pub stays_ping : (s : Session) (f : Whole) → Stays s (on_ping s f)
unfolding on_ping
stays_ping s f =
    either (Stays s) (not (is_set f.flags 1) && is_flooded s) _ _ (λ _. stays_failed s 11) (λ _.
    either (Stays s) (is_interrupted s) _ _ (λ _. stays_failed s 1) (λ _.
    either (Stays s) (is_set f.flags 1) _ _ (λ _. stays_same s s refl refl) (λ _. stays_same s _ refl refl)))

pub stays_entries : (s : Session) (a : Asked) → Stays s (on_entries s a)
unfolding on_entries
stays_entries s a =
    either (Stays s) (widens s a) _ _ (λ _. stays_failed s 3) (λ _.
    either (Stays s) (is_flooded s) _ _ (λ _. stays_failed s 11) (λ _.
    either (Stays s) (is_interrupted s || a.is_wrong) _ _ (λ _. stays_failed s 1) (λ _. stays_same s _ refl refl)))

pub stays_settings : (s : Session) (f : Whole) → Stays s (on_settings s f)
unfolding on_settings
stays_settings s f = either (Stays s) (is_set f.flags 1) _ _ (λ _. stays_passed s) (λ _. stays_entries s _)

-- WINDOW_UPDATE changes the one or the other
pub stays_stream_update : (s : Session) (id n : ℕ) → (on_stream_update s id n).send ≡ s.send
unfolding on_stream_update
stays_stream_update s id n =
    let P : Session → Type 0 = λ t. t.send ≡ s.send in
    either P (not (is_open s id)) _ _ (λ _. refl) (λ _.
    either P (overflows s.initial (stream_at s id) n) _ _ (λ _. refl) (λ _.
    either P (is_interrupted s) _ _ (λ _. refl) (λ _.
    either P (stream_at s id).client_reset _ _ (λ _. refl) (λ _.
    either P (nat_eq n 0) _ _ (λ _. refl) (λ _. refl)))))

pub stays_connection_update : (s : Session) (n : ℕ) → (on_connection_update s n).streams ≡ s.streams
unfolding on_connection_update
stays_connection_update s n =
    let P : Session → Type 0 = λ t. t.streams ≡ s.streams in
    either P (nat_lt 2147483647 (s.send + n)) _ _ (λ _. refl) (λ _.
    either P (is_interrupted s || nat_eq n 0) _ _ (λ _. refl) (λ _. refl))

-- the calls but `feed` and `send`
pub stays_owe : (s : Session) (id credit : ℕ) → Stays s (owe s id credit)
unfolding owe
stays_owe s id credit =
    either (Stays s) (is_open s id && not (stream_at s id).client_reset) _ _
    (λ _. stays_set s _ (id / 2) _ refl refl refl)
    (λ _. stays_same s _ refl refl)

pub stays_handed : (s : Session) (qs : List Queued) → Stays s (handed s qs)
stays_handed s [] = stays_same s s refl refl
stays_handed s (q ∷ qs) = stays_trans s (record s { events = qs }) _ (stays_same s (record s { events = qs }) refl refl) (stays_owe (record s { events = qs }) q.stream q.credit)

pub stays_emptied : (s : Session) → Stays s (emptied s)
stays_emptied s = record { connection = refl; streams = window_told s.streams }

pub stays_opened : (s : Session) (fields : List Field) (last : Bool) → Stays s (opened s fields last)
unfolding opened
stays_opened s fields last = record { connection = refl; streams = λ k. window_pushed s.streams k (record fresh { client_done = last }) refl }

pub stays_given_up : (s : Session) (id code : ℕ) → Stays s (reset s id code)
unfolding reset
stays_given_up s id code = stays_set s _ (id / 2) _ refl refl refl

pub stays_unless : (o : Option ConnFault) (s t : Session) → Stays s t → Stays s (unless o s t)
stays_unless None s t h = h
stays_unless (Some e) s t h = stays_same s s refl refl
