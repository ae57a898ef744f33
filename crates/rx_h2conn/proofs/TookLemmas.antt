-- What a frame adds to the events and to the output.
use Rattle.std.proofs.Common.{◌≡◌, ℕ, ◌+◌, Bool, true, false, cond, not, ◌&&◌, ◌||◌, List, [], ◌∷◌, ◌++◌, refl, sym, ap, subst, ◌∙◌, nat_lt, nat_eq, append-nil, append_assoc, length, Option, None, Some, Result, Ok, Err}
use Rattle.rx_h2frame.specs.declared.kind.Kind.{Kind}
use Rattle.rx_h2frame.specs.declared.kind.Kind.TheVariants.{Data, Headers, Priority, ResetStream, Settings, PushPromise, Ping, GoAway, WindowUpdate, Continuation, Unknown}
use Rattle.rx_h2frame.specs.Flags.{is_set}
use Rattle.rx_h2frame.specs.Frame.{Whole}
use Rattle.rx_h2frame.specs.Write.{Out, out_bytes}
use Rattle.rx_h2conn.specs.declared.fault.ConnFault.{ConnFault}
use Rattle.rx_h2conn.specs.declared.settings.Asked.{Asked}
use Rattle.rx_hpack.specs.declared.fault.HpackFault.{HpackFault}
use Rattle.rx_hpack.specs.declared.fault.HpackFault.TheVariants.{BadIndex, BadInteger, BadHuffman, SizeUpdate, ListTooLarge, NoMemory}
use Rattle.rx_hpack.specs.Header.{Field}
use Rattle.rx_hpack.specs.Decoder.{Ready, Progress}
use Rattle.rx_h2conn.specs.Headers.{told_headers, headers_of, told_block, ended, on_headers, continued, continued_by, on_continuation}
use Rattle.rx_h2conn.specs.Session.{Session, Queued, Block}
use Rattle.rx_h2conn.specs.Streams.{failed, passed, is_open, stream_at, is_dropped, is_interrupted}
use Rattle.rx_h2conn.specs.Data.{passes_window, carried, data_events, taken_data, on_data}
use Rattle.rx_h2conn.specs.Updates.{overflows, on_connection_update, on_stream_update, on_window_update}
use Rattle.rx_h2conn.specs.Ping.{is_flooded, acknowledged, ping_ack, on_ping}
use Rattle.rx_h2conn.specs.Settings.{widens, settings_ack, on_entries, on_settings, asked, blank_asked, settings_of}
use Rattle.rx_h2conn.specs.Ends.{reset_events, on_reset, on_go_away}
use Rattle.rx_h2conn.specs.Steps.{took_by, took}
use Rattle.rx_h2conn.specs.State.{Extends, Keeps}
use Rattle.rx_h2conn.specs.Emitted.{bytes_of, has_fault, ack_outs, took_outs}
use Rattle.rx_h2conn.proofs.ListLemmas.{either, extends_same, extends_trans}

-- new has these frames more in its queue, and some events more
pub record Adds (old new : Session) (outs : List Out) : Type 0 where
  pub queued : new.queued ≡ old.queued ++ bytes_of outs
  pub events : Extends old.events new.events

pub bytes_of-append : (os ps : List Out) → bytes_of (os ++ ps) ≡ bytes_of os ++ bytes_of ps
bytes_of-append [] ps = refl
bytes_of-append (o ∷ os) ps = ap (λ (x : List ℕ). out_bytes o ++ x) (bytes_of-append os ps) ∙ sym (append_assoc (out_bytes o) (bytes_of os) (bytes_of ps))

pub adds_none : (s t : Session) → t.queued ≡ s.queued → t.events ≡ s.events → Adds s t []
adds_none s t q e = record { queued = q ∙ sym (append-nil s.queued); events = rw e (extends_same s.events) }

pub adds_events : (s t : Session) (ps : List Queued) → t.queued ≡ s.queued → t.events ≡ s.events ++ ps → Adds s t []
adds_events s t ps q e = record { queued = q ∙ sym (append-nil s.queued); events = (ps, e) }

pub adds_one : (s t : Session) (o : Out) → t.queued ≡ s.queued ++ out_bytes o → t.events ≡ s.events → Adds s t (o ∷ [])
adds_one s t o q e = record { queued = q ∙ ap (λ (x : List ℕ). s.queued ++ x) (sym (append-nil (out_bytes o))); events = rw e (extends_same s.events) }

pub adds_both : (a b c : Session) (os ps : List Out) → Adds a b os → Adds b c ps → Adds a c (os ++ ps)
adds_both a b c os ps h k = record {
  queued = k.queued ∙ (ap (λ (x : List ℕ). x ++ bytes_of ps) h.queued ∙ (append_assoc a.queued (bytes_of os) (bytes_of ps) ∙ ap (λ (x : List ℕ). a.queued ++ x) (sym (bytes_of-append os ps))));
  events = extends_trans a.events b.events c.events h.events k.events;
}

-- a step that acknowledges nothing
abbrev pub Quiet : Session → Session → Type 0
Quiet old new = Adds old new []

pub quiet_failed : (s : Session) (code : ℕ) → Quiet s (failed s code)
quiet_failed s code = adds_none s (failed s code) refl refl

pub quiet_passed : (s : Session) → Quiet s (passed s)
unfolding passed
quiet_passed s = either (Quiet s) (is_interrupted s) (failed s 1) s (λ _. quiet_failed s 1) (λ _. adds_none s s refl refl)

pub quiet_data : (s : Session) (f : Whole) → Quiet s (on_data s f)
unfolding on_data
quiet_data s f =
    either (Quiet s) (passes_window s f) _ _ (λ _. quiet_failed s 3) (λ _.
    either (Quiet s) (is_interrupted s || not (is_open s f.stream)) _ _ (λ _. quiet_failed s 1) (λ _.
    either (Quiet s) (is_dropped (stream_at s f.stream)) _ _ (λ _. adds_none s _ refl refl) (λ _.
    adds_events s (taken_data s f (is_set f.flags 1)) (data_events f.stream f.body (carried f) (is_set f.flags 1)) refl refl)))

pub quiet_reset : (s : Session) (f : Whole) → Quiet s (on_reset s f)
unfolding on_reset
quiet_reset s f =
    either (Quiet s) (is_interrupted s || not (is_open s f.stream)) _ _ (λ _. quiet_failed s 1) (λ _.
    either (Quiet s) (stream_at s f.stream).client_reset _ _ (λ _. adds_none s s refl refl) (λ _.
    adds_events s _ (reset_events f (stream_at s f.stream).server_done) refl refl))

pub quiet_go_away : (s : Session) (f : Whole) → Quiet s (on_go_away s f)
unfolding on_go_away
quiet_go_away s f = either (Quiet s) (is_interrupted s) _ _ (λ _. quiet_failed s 1) (λ _. adds_events s _ _ refl refl)

pub quiet_connection_update : (s : Session) (n : ℕ) → Quiet s (on_connection_update s n)
unfolding on_connection_update
quiet_connection_update s n =
    either (Quiet s) (nat_lt 2147483647 (s.send + n)) _ _ (λ _. quiet_failed s 3) (λ _.
    either (Quiet s) (is_interrupted s || nat_eq n 0) _ _ (λ _. quiet_failed s 1) (λ _. adds_none s _ refl refl))

pub quiet_stream_update : (s : Session) (id n : ℕ) → Quiet s (on_stream_update s id n)
unfolding on_stream_update
quiet_stream_update s id n =
    either (Quiet s) (not (is_open s id)) _ _ (λ _. quiet_failed s 1) (λ _.
    either (Quiet s) (overflows s.initial (stream_at s id) n) _ _ (λ _. quiet_failed s 3) (λ _.
    either (Quiet s) (is_interrupted s) _ _ (λ _. quiet_failed s 1) (λ _.
    either (Quiet s) (stream_at s id).client_reset _ _ (λ _. adds_none s s refl refl) (λ _.
    either (Quiet s) (nat_eq n 0) _ _ (λ _. quiet_failed s 1) (λ _. adds_none s _ refl refl)))))

pub quiet_window_update : (s : Session) (f : Whole) → Quiet s (on_window_update s f)
unfolding on_window_update
quiet_window_update s f = either (Quiet s) (nat_eq f.stream 0) _ _ (λ _. quiet_connection_update s _) (λ _. quiet_stream_update s f.stream _)

-- the same from a state with the same queue and events
pub quiet_from : (s r t : Session) → r.queued ≡ s.queued → r.events ≡ s.events → Quiet r t → Quiet s t
quiet_from s r t q e h = record { queued = h.queued ∙ ap (λ (x : List ℕ). x ++ []) q; events = subst (λ (x : List Queued). Extends x t.events) e h.events }

pub quiet_told_headers : (s : Session) (id : ℕ) (list : List Field) (last : Bool) → Quiet s (told_headers s id list last)
unfolding told_headers
quiet_told_headers s id list last =
    either (Quiet s) (not (is_open s id)) _ _ (λ _. quiet_failed s 1) (λ _.
    either (Quiet s) (is_dropped (stream_at s id)) _ _ (λ _. adds_none s s refl refl) (λ _. adds_events s _ _ refl refl))

pub quiet_block : (x : Result Progress HpackFault) (s : Session) (id : ℕ) (last : Bool) → Quiet s (told_block x s id last)
quiet_block (Ok read) s id last = quiet_from s (record s { decoder = Ready read.table }) _ refl refl (quiet_told_headers (record s { decoder = Ready read.table }) id read.fields last)
quiet_block (Err ListTooLarge) s id last = adds_none s _ refl refl
quiet_block (Err BadIndex) s id last = adds_none s _ refl refl
quiet_block (Err BadInteger) s id last = adds_none s _ refl refl
quiet_block (Err BadHuffman) s id last = adds_none s _ refl refl
quiet_block (Err SizeUpdate) s id last = adds_none s _ refl refl
quiet_block (Err NoMemory) s id last = adds_none s _ refl refl

pub quiet_ended : (s : Session) (id : ℕ) (block : List ℕ) (last : Bool) → Quiet s (ended s id block last)
unfolding ended
quiet_ended s id block last = quiet_block (headers_of s.decoder block) s id last

pub quiet_headers : (s : Session) (f : Whole) → Quiet s (on_headers s f)
unfolding on_headers
quiet_headers s f =
    either (Quiet s) (is_interrupted s) _ _ (λ _. quiet_failed s 1) (λ _.
    either (Quiet s) (is_set f.flags 4) _ _ (λ _. quiet_ended s f.stream f.body (is_set f.flags 1)) (λ _.
    either (Quiet s) (not (is_open s f.stream)) _ _ (λ _. quiet_failed s 1) (λ _. adds_none s _ refl refl)))

pub quiet_continued : (q : Block) (s : Session) (f : Whole) → Quiet s (continued q s f)
unfolding continued
quiet_continued q s f =
    either (Quiet s) (not (nat_eq q.stream f.stream)) _ _ (λ _. quiet_failed s 1) (λ _.
    either (Quiet s) (nat_lt 65536 (length q.block + length f.body) || not (nat_lt q.count 1024)) _ _ (λ _. quiet_failed s 11) (λ _.
    either (Quiet s) (is_set f.flags 4) _ _ (λ _. quiet_ended s q.stream (q.block ++ f.body) q.last) (λ _. adds_none s _ refl refl)))

pub quiet_continued_by : (q : Option Block) (s : Session) (f : Whole) → Quiet s (continued_by q s f)
quiet_continued_by None s f = quiet_failed s 1
quiet_continued_by (Some q) s f = quiet_continued q s f

pub quiet_continuation : (s : Session) (f : Whole) → Quiet s (on_continuation s f)
unfolding on_continuation
quiet_continuation s f = quiet_from s (record s { sequence = None }) _ refl refl (quiet_continued_by s.sequence (record s { sequence = None }) f)

-- new is what old is after these frames, but for what a fault or an acknowledgement adds
abbrev pub Answers : Session → Bool → List Out → Session → Type 0
Answers old is_ack outs new = Adds old new (cond (has_fault new.fault || is_ack) [] outs)

pub answers_failed : (s : Session) (b : Bool) (outs : List Out) (code : ℕ) → Answers s b outs (failed s code)
answers_failed s b outs code = quiet_failed s code

pub acknowledges_by : (fault : Option ConnFault) (s t : Session) (o : Out) → fault ≡ None → Adds s t (o ∷ []) → Adds s t (cond (has_fault fault || false) [] (o ∷ []))
acknowledges_by None s t o none h = h
acknowledges_by (Some e) s t o none h = absurd cc

pub acknowledges : (s t : Session) (o : Out) → t.fault ≡ None → t.queued ≡ s.queued ++ out_bytes o → t.events ≡ s.events → Answers s false (o ∷ []) t
acknowledges s t o none q e = acknowledges_by t.fault s t o none (adds_one s t o q e)

pub answers_true : (s t : Session) (outs : List Out) → Quiet s t → Answers s true outs t
answers_true s t outs q = elim (has_fault t.fault) as (λ b. Adds s t (cond (b || true) [] outs)) [ true ↦ q | false ↦ q ]

-- where it is no acknowledgement, by cases
pub answers_by : (b : Bool) (s t : Session) (outs : List Out) → (b ≡ true → Quiet s t) → (b ≡ false → Answers s false outs t) → Answers s b outs t
answers_by true s t outs q a = answers_true s t outs (q refl)
answers_by false s t outs q a = a refl

pub answers_nothing : (s t : Session) (b : Bool) → Quiet s t → Answers s b [] t
answers_nothing s t b q = elim (has_fault t.fault || b) as (λ v. Adds s t (cond v [] [])) [ true ↦ q | false ↦ q ]

pub answers_ping : (s : Session) (f : Whole) → s.fault ≡ None → Answers s (is_set f.flags 1) (ping_ack f ∷ []) (on_ping s f)
unfolding on_ping
answers_ping s f none =
    let b = is_set f.flags 1 in
    let P : Session → Type 0 = Answers s b (ping_ack f ∷ []) in
    either P (not b && is_flooded s) _ _ (λ _. answers_failed s b (ping_ack f ∷ []) 11) (λ _.
    either P (is_interrupted s) _ _ (λ _. answers_failed s b (ping_ack f ∷ []) 1) (λ _.
    either P b _ _
    (λ is. let e = is in rw e (answers_true s s (ping_ack f ∷ []) (adds_none s s refl refl)))
    (λ is. let e = is in rw e (acknowledges s (acknowledged s (ping_ack f)) (ping_ack f) none refl refl))))

pub answers_entries : (s : Session) (a : Asked) → s.fault ≡ None → Answers s false (settings_ack ∷ []) (on_entries s a)
unfolding on_entries
answers_entries s a none =
    let P : Session → Type 0 = Answers s false (settings_ack ∷ []) in
    either P (widens s a) _ _ (λ _. answers_failed s false (settings_ack ∷ []) 3) (λ _.
    either P (is_flooded s) _ _ (λ _. answers_failed s false (settings_ack ∷ []) 11) (λ _.
    either P (is_interrupted s || a.is_wrong) _ _ (λ _. answers_failed s false (settings_ack ∷ []) 1) (λ _.
    acknowledges s _ settings_ack none refl refl)))

pub answers_settings_by : (b : Bool) (s : Session) (a : Asked) → s.fault ≡ None → Answers s b (settings_ack ∷ []) (cond b (passed s) (on_entries s a))
answers_settings_by true s a none = answers_true s (passed s) _ (quiet_passed s)
answers_settings_by false s a none = answers_entries s a none

pub answers_settings : (s : Session) (f : Whole) → s.fault ≡ None → Answers s (is_set f.flags 1) (settings_ack ∷ []) (on_settings s f)
unfolding on_settings
answers_settings s f none = answers_settings_by (is_set f.flags 1) s (asked (blank_asked s.initial) (settings_of f.body)) none

pub answers_took_by : (k : Kind) (s : Session) (f : Whole) → s.fault ≡ None → Answers s (is_set f.flags 1) (ack_outs k f) (took_by k s f)
answers_took_by Data s f none = answers_nothing s _ (is_set f.flags 1) (quiet_data s f)
answers_took_by Headers s f none = answers_nothing s _ (is_set f.flags 1) (quiet_headers s f)
answers_took_by Priority s f none = answers_nothing s _ (is_set f.flags 1) (quiet_passed s)
answers_took_by ResetStream s f none = answers_nothing s _ (is_set f.flags 1) (quiet_reset s f)
answers_took_by Settings s f none = answers_settings s f none
answers_took_by PushPromise s f none = answers_nothing s _ (is_set f.flags 1) (quiet_failed s 1)
answers_took_by Ping s f none = answers_ping s f none
answers_took_by GoAway s f none = answers_nothing s _ (is_set f.flags 1) (quiet_go_away s f)
answers_took_by WindowUpdate s f none = answers_nothing s _ (is_set f.flags 1) (quiet_window_update s f)
answers_took_by Continuation s f none = answers_nothing s _ (is_set f.flags 1) (quiet_continuation s f)
answers_took_by (Unknown byte) s f none = answers_nothing s _ (is_set f.flags 1) (quiet_passed s)

pub adds_took : (s : Session) (f : Whole) → s.fault ≡ None → Adds s (took s f) (took_outs s f)
adds_took s f none = answers_took_by f.kind s f none

-- frames and events that were added are kept before
pub keeps : (s t : Session) (outs : List Out) → Adds s t outs → Keeps s t
keeps s t outs h = record { events = h.events; queued = (bytes_of outs, h.queued) }

pub keeps_same : (s : Session) → Keeps s s
keeps_same s = record { events = extends_same s.events; queued = extends_same s.queued }

pub keeps_trans : (a b c : Session) → Keeps a b → Keeps b c → Keeps a c
keeps_trans a b c h k = record { events = extends_trans a.events b.events c.events h.events k.events; queued = extends_trans a.queued b.queued c.queued h.queued k.queued }
