-- Each frame that breaks no rule tells what its bytes tell.
use Rattle.std.proofs.Common.{◌⊎◌, inl, inr, ◌≡◌, ℕ, ◌+◌, ◌/◌, Bool, true, false, cond, not, ◌&&◌, ◌||◌, List, [], ◌∷◌, ◌++◌, length, set, append-nil, refl, sym, ap, subst, ◌∙◌, nat_eq, nat_lt, Option, None, Some, Result, Ok, Err}
use Rattle.std.proofs.lemmas.Bool.{or_parts, and_parts, not-true, not-false}
use Rattle.std.proofs.Math.Bool.{or-false, or-true}
use Rattle.rx_hpack.specs.declared.fault.HpackFault.{HpackFault}
use Rattle.rx_hpack.specs.declared.fault.HpackFault.TheVariants.{BadIndex, BadInteger, BadHuffman, SizeUpdate, ListTooLarge, NoMemory}
use Rattle.rx_hpack.specs.Header.{Field}
use Rattle.rx_hpack.specs.Decoder.{State, Ready, Progress}
use Rattle.rx_h2frame.specs.declared.kind.Kind.{Kind}
use Rattle.rx_h2frame.specs.declared.kind.Kind.TheVariants.{Data, Headers, Priority, ResetStream, Settings, PushPromise, Ping, GoAway, WindowUpdate, Continuation, Unknown}
use Rattle.rx_h2frame.specs.Flags.{is_set}
use Rattle.rx_h2frame.specs.Frame.{Whole}
use Rattle.rx_h2conn.specs.declared.fault.ConnFault.{ConnFault}
use Rattle.rx_h2conn.specs.declared.fault.ConnFault.TheVariants.{Protocol}
use Rattle.rx_h2conn.specs.declared.settings.Asked.{Asked}
use Rattle.rx_h2conn.specs.declared.stream.Stream.{Stream}
use Rattle.rx_h2conn.specs.Session.{Session, Event, Queued, Block, Bytes, Reset, Gone}
use Rattle.rx_h2conn.specs.Session.{Headers as HeaderList}
use Rattle.rx_h2conn.specs.Streams.{failed, passed, is_open, stream_at, is_dropped, is_interrupted, has_sequence, number, number_31}
use Rattle.rx_h2conn.specs.Data.{passes_window, carried, heard, dropped_data, taken_data, on_data}
use Rattle.rx_h2conn.specs.Headers.{told_headers, headers_of, told_block, ended, on_headers, continued, continued_by, on_continuation}
use Rattle.rx_h2conn.specs.Updates.{overflows, on_connection_update, on_stream_update, on_window_update}
use Rattle.rx_h2conn.specs.Ping.{is_flooded, on_ping}
use Rattle.rx_h2conn.specs.Settings.{widens, on_entries, on_settings}
use Rattle.rx_h2conn.specs.Ends.{reset_events, on_reset, on_go_away}
use Rattle.rx_h2conn.specs.Steps.{took_by}
use Rattle.rx_h2conn.proofs.ListLemmas.{either}
use Rattle.rx_h2conn.specs.Incoming.{Incoming, telling, uninterrupted, data_told, block_read, block_told, headers_told, block_goes_on, continuation_told, frame_in}
use Rattle.rx_h2conn.specs.Heard.{events_of}
use Rattle.rx_h2conn.proofs.EventLemmas.{OnStream}
use Rattle.rx_h2conn.proofs.HearingLemmas.{Hearing, Quiet, quiet_same, quiet_set, quiet_from, hearing_quiet, hearing_dropped, hearing_event, hearing_other}

pub events_of_append : (xs ys : List Queued) → events_of (xs ++ ys) ≡ events_of xs ++ events_of ys
events_of_append [] ys = refl
events_of_append (x ∷ xs) ys = ap (λ (z : List Event). x.event ∷ z) (events_of_append xs ys)

-- no header block is open
pub on_going : (h : List Event) (s x : Session) (t new : Incoming) → t.sequence ≡ s.sequence → is_interrupted s ≡ false → Hearing h x new → Hearing h x (uninterrupted t new)
on_going h s x t new e i hear =
    let none : has_sequence t.sequence ≡ false = ap has_sequence e ∙ i in
    rw none hear

-- a broken rule, and nothing was told
pub record Halts (s x : Session) : Type 0 where
  pub failed : x.fault ≡ None → ⊥
  pub quiet : Quiet s x

-- a frame leaves both telling the same, or it breaks a rule and tells nothing
abbrev pub Goes : List Event → Session → Incoming → Session → Type 0
Goes h s u x = ((x.fault ≡ s.fault) × Hearing h x u) ⊎ Halts s x

pub halts : (s x : Session) (e : ConnFault) → x.fault ≡ Some e → x.streams ≡ s.streams → x.events ≡ s.events → Halts s x
halts s x e fault streams events = record {
  failed = λ none. let no : None ≡ Some e = sym none ∙ fault in absurd cc;
  quiet = quiet_same s x streams (ap events_of events);
}

pub fails : (h : List Event) (u : Incoming) (s : Session) (code : ℕ) → Goes h s u (failed s code)
fails h u s code = inr (halts s _ (Protocol code) refl refl refl)

-- the same from a state with the same streams and events
pub goes_from : (h : List Event) (s r : Session) (u : Incoming) (x : Session) → r.streams ≡ s.streams → r.events ≡ s.events → r.fault ≡ s.fault → Goes h r u x → Goes h s u x
goes_from h s r u x streams events fault (inl hear) = inl (hear.0 ∙ fault, hear.1)
goes_from h s r u x streams events fault (inr bad) = inr (record { failed = bad.failed; quiet = quiet_from s r x streams events bad.quiet })

pub goes_on : (h : List Event) (s x : Session) (t new : Incoming) → t.sequence ≡ s.sequence → is_interrupted s ≡ false → Goes h s new x → Goes h s (uninterrupted t new) x
goes_on h s x t new e i (inl hear) = inl (hear.0, on_going h s x t new e i hear.1)
goes_on h s x t new e i (inr bad) = inr bad

pub stays : (h : List Event) (s : Session) (t : Incoming) → Hearing h s t → is_interrupted s ≡ false → Hearing h s (uninterrupted t t)
stays h s t hear i = on_going h s s t t hear.sequence i hear

-- what tells nothing
pub quiet : (h : List Event) (s x : Session) (t : Incoming) → Hearing h s t → is_interrupted s ≡ false → Quiet s x → x.decoder ≡ s.decoder → x.sequence ≡ s.sequence → Hearing h x (uninterrupted t t)
quiet h s x t hear i q d e = on_going h s x t t hear.sequence i (hearing_quiet h s x t t hear q hear.going (hear.decoder ∙ sym d) (hear.sequence ∙ sym e) refl)

pub goes_passed : (h : List Event) (s : Session) (t : Incoming) → Hearing h s t → Goes h s (uninterrupted t t) (passed s)
unfolding passed
goes_passed h s t hear = either (Goes h s (uninterrupted t t)) (is_interrupted s) _ _ (λ _. fails h _ s 1) (λ i. inl (refl, stays h s t hear i))

pub goes_ping : (h : List Event) (s : Session) (t : Incoming) (f : Whole) → Hearing h s t → Goes h s (uninterrupted t t) (on_ping s f)
unfolding on_ping
goes_ping h s t f hear =
    let P = Goes h s (uninterrupted t t) in
    either P (not (is_set f.flags 1) && is_flooded s) _ _ (λ _. fails h _ s 11) (λ _.
    either P (is_interrupted s) _ _ (λ _. fails h _ s 1) (λ i.
    either P (is_set f.flags 1) _ _ (λ _. inl (refl, stays h s t hear i)) (λ _. inl (refl, quiet h s _ t hear i (quiet_same s _ refl refl) refl refl))))

pub goes_entries : (h : List Event) (s : Session) (t : Incoming) (a : Asked) → Hearing h s t → Goes h s (uninterrupted t t) (on_entries s a)
unfolding on_entries
goes_entries h s t a hear =
    let P = Goes h s (uninterrupted t t) in
    either P (widens s a) _ _ (λ _. fails h _ s 3) (λ _.
    either P (is_flooded s) _ _ (λ _. fails h _ s 11) (λ _.
    either P (is_interrupted s || a.is_wrong) _ _ (λ _. fails h _ s 1) (λ fine.
    inl (refl, quiet h s _ t hear (or_parts _ _ fine).0 (quiet_same s _ refl refl) refl refl))))

pub goes_settings : (h : List Event) (s : Session) (t : Incoming) (f : Whole) → Hearing h s t → Goes h s (uninterrupted t t) (on_settings s f)
unfolding on_settings
goes_settings h s t f hear = either (Goes h s (uninterrupted t t)) (is_set f.flags 1) _ _ (λ _. goes_passed h s t hear) (λ _. goes_entries h s t _ hear)

pub goes_connection_update : (h : List Event) (s : Session) (t : Incoming) (n : ℕ) → Hearing h s t → Goes h s (uninterrupted t t) (on_connection_update s n)
unfolding on_connection_update
goes_connection_update h s t n hear =
    let P = Goes h s (uninterrupted t t) in
    either P (nat_lt 2147483647 (s.send + n)) _ _ (λ _. fails h _ s 3) (λ _.
    either P (is_interrupted s || nat_eq n 0) _ _ (λ _. fails h _ s 1) (λ fine.
    inl (refl, quiet h s _ t hear (or_parts _ _ fine).0 (quiet_same s _ refl refl) refl refl)))

pub goes_stream_update : (h : List Event) (s : Session) (t : Incoming) (id n : ℕ) → Hearing h s t → Goes h s (uninterrupted t t) (on_stream_update s id n)
unfolding on_stream_update
goes_stream_update h s t id n hear =
    let P = Goes h s (uninterrupted t t) in
    either P (not (is_open s id)) _ _ (λ _. fails h _ s 1) (λ opened.
    either P (overflows s.initial (stream_at s id) n) _ _ (λ _. fails h _ s 3) (λ _.
    either P (is_interrupted s) _ _ (λ _. fails h _ s 1) (λ i.
    either P (stream_at s id).client_reset _ _ (λ _. inl (refl, stays h s t hear i)) (λ _.
    either P (nat_eq n 0) _ _ (λ _. fails h _ s 1) (λ _.
    inl (refl, quiet h s _ t hear i (quiet_set s _ (id / 2) _ refl (record { given_up = refl; over = refl }) refl) refl refl))))))

pub goes_window_update : (h : List Event) (s : Session) (t : Incoming) (f : Whole) → Hearing h s t → Goes h s (uninterrupted t t) (on_window_update s f)
unfolding on_window_update
goes_window_update h s t f hear = either (Goes h s (uninterrupted t t)) (nat_eq f.stream 0) _ _ (λ _. goes_connection_update h s t _ hear) (λ _. goes_stream_update h s t f.stream _ hear)

pub goes_go_away : (h : List Event) (s : Session) (t : Incoming) (f : Whole) → Hearing h s t → Goes h s (uninterrupted t (telling t (Gone (number_31 f.body) ∷ []))) (on_go_away s f)
unfolding on_go_away
goes_go_away h s t f hear =
    let u = telling t (Gone (number_31 f.body) ∷ []) in
    either (Goes h s (uninterrupted t u)) (is_interrupted s) _ _ (λ _. fails h _ s 1) (λ i.
    inl (refl, on_going h s _ t u hear.sequence i (hearing_other h s _ t u (Gone (number_31 f.body)) hear (λ id. refl) refl (events_of_append s.events _) hear.going hear.decoder hear.sequence refl)))

-- DATA
pub on_bytes : (i : ℕ) (bytes : List ℕ) (last : Bool) → OnStream i (Bytes i bytes last)
on_bytes i bytes last = record { on = λ id. refl; out = λ id. refl }

pub data_dropped : (b : Bool) (h : List Event) (s : Session) (t : Incoming) (f : Whole) (last : Bool) → Hearing h s t → is_open s f.stream ≡ true → is_dropped (stream_at s f.stream) ≡ true → Hearing h (dropped_data s f.size) (telling t (cond b [] (Bytes f.stream f.body last ∷ [])))
data_dropped true h s t f last hear is dropped = hearing_quiet h s _ t _ hear (quiet_same s _ refl refl) hear.going hear.decoder hear.sequence (append-nil t.events)
data_dropped false h s t f last hear is dropped = hearing_dropped h s _ t _ f.stream (Bytes f.stream f.body last) hear is dropped (on_bytes f.stream f.body last) (quiet_same s _ refl refl) hear.going hear.decoder hear.sequence refl

-- bytes that are told, or none that don't end the stream
pub data_taken : (b : Bool) (h : List Event) (s x : Session) (t : Incoming) (i : ℕ) (bytes : List ℕ) (last : Bool) (y : Stream) (q : Queued) → Hearing h s t → (b ≡ true → last ≡ false) → is_open s i ≡ true → x.streams ≡ set s.streams (i / 2) y → y.client_reset ≡ (stream_at s i).client_reset → y.server_done ≡ ((stream_at s i).server_done || last) → q.event ≡ Bytes i bytes last → x.events ≡ s.events ++ cond b [] (q ∷ []) → x.decoder ≡ s.decoder → x.sequence ≡ s.sequence → Hearing h x (telling t (cond b [] (Bytes i bytes last ∷ [])))
data_taken true h s x t i bytes last y q hear ends is streams given_up over event events d e =
    let no = ends refl in
    let same : y.server_done ≡ (stream_at s i).server_done = over ∙ rw no (or-false (stream_at s i).server_done) in
    hearing_quiet h s x t _ hear (quiet_set s x (i / 2) y streams (record { given_up = given_up; over = same }) (ap events_of (events ∙ append-nil s.events))) hear.going (hear.decoder ∙ sym d) (hear.sequence ∙ sym e) (append-nil t.events)
data_taken false h s x t i bytes last y q hear ends is streams given_up over event events d e =
    hearing_event h s x t _ i y (Bytes i bytes last) hear is (on_bytes i bytes last) streams given_up over
    (ap events_of events ∙ (events_of_append s.events (q ∷ []) ∙ ap (λ (z : Event). events_of s.events ++ z ∷ []) event))
    hear.going (hear.decoder ∙ sym d) (hear.sequence ∙ sym e) refl

pub goes_data : (h : List Event) (s : Session) (t : Incoming) (f : Whole) → Hearing h s t → Goes h s (uninterrupted t (telling t (data_told f.stream f.body (is_set f.flags 1)))) (on_data s f)
unfolding on_data
goes_data h s t f hear =
    let last = is_set f.flags 1 in
    let b = nat_eq (length f.body) 0 && not last in
    let P = Goes h s (uninterrupted t (telling t (data_told f.stream f.body (is_set f.flags 1)))) in
    either P (passes_window s f) _ _ (λ _. fails h _ s 3) (λ _.
    either P (is_interrupted s || not (is_open s f.stream)) _ _ (λ _. fails h _ s 1) (λ fine.
    let i = (or_parts _ _ fine).0 in
    let is = not-false _ (or_parts _ _ fine).1 in
    either P (is_dropped (stream_at s f.stream)) _ _
    (λ dropped. inl (refl, on_going h s _ t _ hear.sequence i (data_dropped b h s t f last hear is dropped)))
    (λ _. inl (refl, on_going h s _ t _ hear.sequence i (data_taken b h s (taken_data s f last) t f.stream f.body last (heard (stream_at s f.stream) f.size _ last) (record { event = Bytes f.stream f.body last; stream = f.stream; credit = carried f }) hear (λ e. not-true last (and_parts _ _ e).1) is refl refl refl refl refl refl refl)))))

-- header lists
pub in_block : (h : List Event) (s : Session) (t : Incoming) (o : Option Block) → Hearing h s t → Hearing h (record s { sequence = o }) (record t { sequence = o })
in_block h s t o hear = record { going = hear.going; decoder = hear.decoder; sequence = refl; opened = hear.opened; unopened = hear.unopened; silent = hear.silent }

pub on_list : (i : ℕ) (list : List Field) (last : Bool) → OnStream i (HeaderList i list last)
on_list i list last = record { on = λ id. refl; out = λ id. refl }

pub goes_list : (h : List Event) (s : Session) (t u : Incoming) (i : ℕ) (list : List Field) (last : Bool) → Hearing h s t → u.broken ≡ false → u.decoder ≡ s.decoder → u.sequence ≡ s.sequence → u.events ≡ t.events ++ HeaderList i list last ∷ [] → Goes h s u (told_headers s i list last)
unfolding told_headers
goes_list h s t u i list last hear going d e events =
    let P = Goes h s u in
    either P (not (is_open s i)) _ _ (λ _. fails h _ s 1) (λ opened.
    let is = not-false _ opened in
    either P (is_dropped (stream_at s i)) _ _
    (λ dropped. inl (refl, hearing_dropped h s s t u i (HeaderList i list last) hear is dropped (on_list i list last) (quiet_same s s refl refl) going d e events))
    (λ _. inl (refl, hearing_event h s _ t u i _ (HeaderList i list last) hear is (on_list i list last) refl refl refl (events_of_append s.events _) going d e events)))

pub goes_block : (x : Result Progress HpackFault) (h : List Event) (s : Session) (t : Incoming) (i : ℕ) (last : Bool) → Hearing h s t → Goes h s (block_read x t i last) (told_block x s i last)
goes_block (Ok read) h s t i last hear =
    let again : Hearing h (record s { decoder = Ready read.table }) (record t { decoder = Ready read.table }) = record { going = hear.going; decoder = refl; sequence = hear.sequence; opened = hear.opened; unopened = hear.unopened; silent = hear.silent } in
    goes_from h s (record s { decoder = Ready read.table }) _ _ refl refl refl (goes_list h (record s { decoder = Ready read.table }) (record t { decoder = Ready read.table }) _ i read.fields last again hear.going refl hear.sequence refl)
goes_block (Err ListTooLarge) h s t i last hear = inr (halts s _ (Protocol 11) refl refl refl)
goes_block (Err BadIndex) h s t i last hear = inr (halts s _ (Protocol 9) refl refl refl)
goes_block (Err BadInteger) h s t i last hear = inr (halts s _ (Protocol 9) refl refl refl)
goes_block (Err BadHuffman) h s t i last hear = inr (halts s _ (Protocol 9) refl refl refl)
goes_block (Err SizeUpdate) h s t i last hear = inr (halts s _ (Protocol 9) refl refl refl)
goes_block (Err NoMemory) h s t i last hear = inr (halts s _ (Protocol 9) refl refl refl)

pub goes_ended : (h : List Event) (s : Session) (t : Incoming) (i : ℕ) (block : List ℕ) (last : Bool) → Hearing h s t → Goes h s (block_told t i block last) (ended s i block last)
unfolding ended
goes_ended h s t i block last hear =
    subst (λ (d : State). Goes h s (block_read (headers_of d block) t i last) (told_block (headers_of s.decoder block) s i last)) (sym hear.decoder)
    (goes_block (headers_of s.decoder block) h s t i last hear)

pub goes_headers : (h : List Event) (s : Session) (t : Incoming) (f : Whole) → Hearing h s t → Goes h s (uninterrupted t (headers_told t f)) (on_headers s f)
unfolding on_headers
goes_headers h s t f hear =
    let P = Goes h s (uninterrupted t (headers_told t f)) in
    either P (is_interrupted s) _ _ (λ _. fails h _ s 1) (λ i.
    either P (is_set f.flags 4) _ _
    (λ four. goes_on h s _ t _ hear.sequence i (rw four (goes_ended h s t f.stream f.body (is_set f.flags 1) hear)))
    (λ four. either P (not (is_open s f.stream)) _ _ (λ _. fails h _ s 1) (λ _.
    inl (refl, on_going h s _ t _ hear.sequence i (rw four (in_block h s t _ hear))))))

pub goes_continued : (q : Block) (h : List Event) (s : Session) (t : Incoming) (f : Whole) → Hearing h s t → Goes h s (block_goes_on q t f) (continued q s f)
unfolding continued
goes_continued q h s t f hear =
    let P = Goes h s (block_goes_on q t f) in
    either P (not (nat_eq q.stream f.stream)) _ _ (λ _. fails h _ s 1) (λ same.
    either P (nat_lt 65536 (length q.block + length f.body) || not (nat_lt q.count 1024)) _ _ (λ _. fails h _ s 11) (λ few.
    either P (is_set f.flags 4) _ _
    (λ four. rw (same, few, four) (goes_ended h s t q.stream (q.block ++ f.body) q.last hear))
    (λ four. inl (refl, rw (same, few, four) (in_block h s t _ hear)))))

pub goes_continued_by : (o : Option Block) (h : List Event) (s : Session) (t : Incoming) (f : Whole) → Hearing h s t → Goes h s (continuation_told o t f) (continued_by o (record s { sequence = None }) f)
goes_continued_by None h s t f hear = inr (halts s _ (Protocol 1) refl refl refl)
goes_continued_by (Some q) h s t f hear = goes_from h s (record s { sequence = None }) _ _ refl refl refl (goes_continued q h (record s { sequence = None }) (record t { sequence = None }) f (in_block h s t None hear))

pub goes_continuation : (h : List Event) (s : Session) (t : Incoming) (f : Whole) → Hearing h s t → Goes h s (continuation_told t.sequence t f) (on_continuation s f)
unfolding on_continuation
goes_continuation h s t f hear =
    subst (λ (o : Option Block). Goes h s (continuation_told o t f) (continued_by s.sequence (record s { sequence = None }) f)) (sym hear.sequence)
    (goes_continued_by s.sequence h s t f hear)

-- RST_STREAM
pub on_end : (i code : ℕ) → OnStream i (Reset i code)
on_end i code = record { on = λ id. refl; out = λ id. refl }

pub reset_taken : (over : Bool) (h : List Event) (s x : Session) (t : Incoming) (f : Whole) (y : Stream) → Hearing h s t → (stream_at s f.stream).server_done ≡ over → is_open s f.stream ≡ true → x.streams ≡ set s.streams (f.stream / 2) y → y.client_reset ≡ (stream_at s f.stream).client_reset → y.server_done ≡ true → x.events ≡ s.events ++ reset_events f over → x.decoder ≡ s.decoder → x.sequence ≡ s.sequence → Hearing h x (telling t (Reset f.stream (number f.body) ∷ []))
reset_taken true h s x t f y hear done is streams given_up over events d e =
    hearing_dropped h s x t _ f.stream (Reset f.stream (number f.body)) hear is (rw done (or-true (stream_at s f.stream).client_reset)) (on_end f.stream (number f.body))
    (quiet_set s x (f.stream / 2) y streams (record { given_up = given_up; over = over ∙ sym done }) (ap events_of (events ∙ append-nil s.events)))
    hear.going (hear.decoder ∙ sym d) (hear.sequence ∙ sym e) refl
reset_taken false h s x t f y hear done is streams given_up over events d e =
    hearing_event h s x t _ f.stream y (Reset f.stream (number f.body)) hear is (on_end f.stream (number f.body)) streams given_up
    (over ∙ sym (or-true (stream_at s f.stream).server_done))
    (ap events_of events ∙ events_of_append s.events _)
    hear.going (hear.decoder ∙ sym d) (hear.sequence ∙ sym e) refl

pub goes_reset : (h : List Event) (s : Session) (t : Incoming) (f : Whole) → Hearing h s t → Goes h s (uninterrupted t (telling t (Reset f.stream (number f.body) ∷ []))) (on_reset s f)
unfolding on_reset
goes_reset h s t f hear =
    let P = Goes h s (uninterrupted t (telling t (Reset f.stream (number f.body) ∷ []))) in
    either P (is_interrupted s || not (is_open s f.stream)) _ _ (λ _. fails h _ s 1) (λ fine.
    let i = (or_parts _ _ fine).0 in
    let is = not-false _ (or_parts _ _ fine).1 in
    either P (stream_at s f.stream).client_reset _ _
    (λ given. inl (refl, on_going h s s t _ hear.sequence i (hearing_dropped h s s t _ f.stream (Reset f.stream (number f.body)) hear is (rw given refl) (on_end f.stream (number f.body)) (quiet_same s s refl refl) hear.going hear.decoder hear.sequence refl)))
    (λ _. inl (refl, on_going h s _ t _ hear.sequence i (reset_taken (stream_at s f.stream).server_done h s _ t f _ hear refl is refl refl refl refl refl refl))))

pub goes_by : (k : Kind) (h : List Event) (s : Session) (t : Incoming) (f : Whole) → Hearing h s t → Goes h s (frame_in k t f) (took_by k s f)
goes_by Data h s t f hear = goes_data h s t f hear
goes_by Headers h s t f hear = goes_headers h s t f hear
goes_by Priority h s t f hear = goes_passed h s t hear
goes_by ResetStream h s t f hear = goes_reset h s t f hear
goes_by Settings h s t f hear = goes_settings h s t f hear
goes_by PushPromise h s t f hear = fails h _ s 1
goes_by Ping h s t f hear = goes_ping h s t f hear
goes_by GoAway h s t f hear = goes_go_away h s t f hear
goes_by WindowUpdate h s t f hear = goes_window_update h s t f hear
goes_by Continuation h s t f hear = goes_continuation h s t f hear
goes_by (Unknown byte) h s t f hear = goes_passed h s t hear
