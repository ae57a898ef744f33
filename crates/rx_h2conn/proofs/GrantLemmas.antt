-- No more bytes are sent than the server allowed on the connection.
use Rattle.std.proofs.Common.{◌≡◌, ℕ, ◌+◌, ◌-◌, ◌≤◌, Bool, true, false, cond, ◌||◌, List, [], ◌∷◌, ◌++◌, length, refl, ap, ◌∙◌, Option, None, Some, Result, Ok, Err, nat_lt, nat_eq, arith, length-take, length-append}
use Rattle.std.specs.List.{filter}
use Rattle.std.proofs.lemmas.List.Elements.{filter-append}
use Rattle.rx_h2frame.specs.declared.frame.FrameFault.{FrameFault}
use Rattle.rx_h2frame.specs.declared.kind.Kind.{Kind}
use Rattle.rx_h2frame.specs.declared.kind.Kind.TheVariants.{Data, Headers, Priority, ResetStream, Settings, PushPromise, Ping, GoAway, WindowUpdate, Continuation, Unknown}
use Rattle.rx_h2frame.specs.Frame.{Whole, Seen, Complete, Lacks, next}
use Rattle.rx_h2frame.specs.Write.{Out}
use Rattle.rx_h2conn.specs.declared.fault.ConnFault.{ConnFault}
use Rattle.rx_h2conn.specs.Session.{Session, Reading}
use Rattle.rx_h2conn.specs.Streams.{failed, passed, stream_at, is_interrupted, number_31}
use Rattle.rx_h2conn.specs.Data.{on_data}
use Rattle.rx_h2conn.specs.Headers.{on_headers, on_continuation}
use Rattle.rx_h2conn.specs.Updates.{on_connection_update, on_stream_update, on_window_update}
use Rattle.rx_h2conn.specs.Ping.{on_ping}
use Rattle.rx_h2conn.specs.Settings.{on_settings}
use Rattle.rx_h2conn.specs.Ends.{on_reset, on_go_away}
use Rattle.rx_h2conn.specs.Steps.{took_by, judged, settled, more, unless_failed, byte, fed, broken}
use Rattle.rx_h2conn.specs.Emitted.{has_fault}
use Rattle.rx_h2conn.specs.Open.{refusal, opened}
use Rattle.rx_h2conn.specs.Output.{allowed, charged, sent, reset, reset_frame}
use Rattle.rx_h2conn.specs.History.{Call, Feeds, Starves, Hands, Takes, Opens, Sends, Resets, after, run, unless, emitted, all_emitted}
use Rattle.rx_h2conn.specs.Carried.{is_data, payload, bytes_in, written, bytes_unless}
use Rattle.rx_h2conn.specs.Granted.{grant_of, judged_grant, settled_grant, grant_unless, byte_grant, fed_grant, granted_by, all_granted}
use Rattle.rx_h2conn.proofs.ListLemmas.{either}
use Rattle.rx_h2conn.proofs.ChosenLemmas.{IsOfStreams, none_fed, none_due, none_unless}
use Rattle.rx_h2conn.proofs.CarriedLemmas.{payload-append, data_sent, none_opened}
use Rattle.rx_h2conn.proofs.StaysLemmas.{stays_passed, stays_data, stays_reset, stays_go_away, stays_headers, stays_continuation, stays_ping, stays_settings, stays_stream_update, stays_handed, stays_opened, stays_given_up, stays_unless}

-- the window grows by what a frame allows
abbrev pub Grows : ℕ → Session → Session → Type 0
Grows n s t = t.send ≡ s.send + cond (has_fault t.fault) 0 n

pub grows_none : (s t : Session) → t.send ≡ s.send → Grows 0 s t
grows_none s t h = elim (has_fault t.fault) as (λ b. t.send ≡ s.send + cond b 0 0) [ true ↦ omega (arith, h) | false ↦ omega (arith, h) ]

pub grows_by : (o : Option ConnFault) (s n : ℕ) → o ≡ None → s + n ≡ s + cond (has_fault o) 0 n
grows_by None s n none = refl
grows_by (Some e) s n none = absurd cc

pub grows_connection : (s : Session) (n : ℕ) → s.fault ≡ None → Grows n s (on_connection_update s n)
unfolding on_connection_update
grows_connection s n none =
    either (Grows n s) (nat_lt 2147483647 (s.send + n)) _ _ (λ _. omega arith) (λ _.
    either (Grows n s) (is_interrupted s || nat_eq n 0) _ _ (λ _. omega arith) (λ _. grows_by s.fault s.send n none))

pub grows_update : (s : Session) (f : Whole) → s.fault ≡ None → Grows (grant_of 0 WindowUpdate f) s (on_window_update s f)
unfolding on_window_update
grows_update s f none =
    elim (nat_eq f.stream 0) as (λ b. Grows (cond b (number_31 f.body) 0) s (cond b (on_connection_update s (number_31 f.body)) (on_stream_update s f.stream (number_31 f.body)))) [
      | true ↦ grows_connection s (number_31 f.body) none
      | false ↦ grows_none s (on_stream_update s f.stream (number_31 f.body)) (stays_stream_update s f.stream (number_31 f.body))
    ]

pub grows_took : (k : Kind) (s : Session) (f : Whole) → s.fault ≡ None → Grows (grant_of 0 k f) s (took_by k s f)
grows_took Data s f none = grows_none s (on_data s f) (stays_data s f).connection
grows_took Headers s f none = grows_none s (on_headers s f) (stays_headers s f).connection
grows_took Priority s f none = grows_none s (passed s) (stays_passed s).connection
grows_took ResetStream s f none = grows_none s (on_reset s f) (stays_reset s f).connection
grows_took Settings s f none = grows_none s (on_settings s f) (stays_settings s f).connection
grows_took PushPromise s f none = grows_none s (failed s 1) refl
grows_took Ping s f none = grows_none s (on_ping s f) (stays_ping s f).connection
grows_took GoAway s f none = grows_none s (on_go_away s f) (stays_go_away s f).connection
grows_took WindowUpdate s f none = grows_update s f none
grows_took Continuation s f none = grows_none s (on_continuation s f) (stays_continuation s f).connection
grows_took (Unknown byte) s f none = grows_none s (passed s) (stays_passed s).connection

pub grows_judged : (r : Reading) (x : Result Seen FrameFault) → r.state.fault ≡ None → (judged r x).state.send ≡ r.state.send + judged_grant r 0 x
grows_judged r (Err e) none = omega arith
grows_judged r (Ok (Lacks n)) none = omega arith
grows_judged r (Ok (Complete f)) none = grows_took f.kind r.state f none

pub grows_settled : (r : Reading) → r.state.fault ≡ None → (settled r).state.send ≡ r.state.send + settled_grant r 0
unfolding settled settled_grant
grows_settled r none = grows_judged r (next 16384 r.rest) none

pub grows_unless : (o : Option ConnFault) (r n : Reading) (more : ℕ) → (o ≡ None → n.state.send ≡ r.state.send + more) → (unless_failed o r n).state.send ≡ r.state.send + grant_unless o more
grows_unless None r n more h = h refl
grows_unless (Some e) r n more h = omega arith

pub grows_byte : (r : Reading) (b : ℕ) → (byte r b).state.send ≡ r.state.send + byte_grant r 0 b
unfolding byte byte_grant
grows_byte r b = grows_unless r.state.fault r (settled (more r (b ∷ []))) (settled_grant (more r (b ∷ [])) 0) (λ none. grows_settled (more r (b ∷ [])) none)

pub grows_fed : (r : Reading) (p : List ℕ) → (fed r p).state.send ≡ r.state.send + fed_grant r 0 p
grows_fed r [] = omega arith
grows_fed r (b ∷ p) = omega (arith, grows_byte r b, grows_fed (byte r b) p)

-- the calls
pub starved_send : (o : Option ConnFault) (r : Reading) → (unless_failed o r (broken r)).state.send ≤ r.state.send
starved_send None r = omega arith
starved_send (Some e) r = omega arith

pub charged_few : (s : Session) (id size : ℕ) → charged s id size ≤ s.send
charged_few s id size = either (λ n. n ≤ s.send) (stream_at s id).server_reset 0 (allowed s id size) (λ _. omega arith) (λ _. omega arith)

pub sent-send : (s : Session) (id : ℕ) (piece : List ℕ) (last : Bool) → (sent s id piece last).send ≡ s.send - charged s id (length piece)
unfolding sent
sent-send s id piece last = refl

pub sent_within : (o : Option ConnFault) (s : Session) (id : ℕ) (piece : List ℕ) (last : Bool) → length (bytes_unless o (written s id piece)) + (unless o s (sent s id piece last)).send ≤ s.send
sent_within None s id piece last = omega (arith, charged_few s id (length piece), sent-send s id piece last, length-take (charged s id (length piece)) piece)
sent_within (Some e) s id piece last = omega arith

abbrev pub is_bytes : Out → Bool
is_bytes o = is_data o.kind

pub all_of_streams : IsOfStreams is_bytes
all_of_streams = record { settings = refl; ping = λ f. refl; credit = λ i n. refl }

pub nothing_more : (os : List Out) (old new : ℕ) → filter is_bytes os ≡ [] → new ≤ old → length (bytes_in os) + new ≤ old
nothing_more os old new none h = rw none (omega (arith, h))

pub granted : (r : Reading) (c : Call) → length (bytes_in (emitted r c)) + (after r c).state.send ≤ r.state.send + granted_by r 0 c
granted r (Feeds piece) = nothing_more (emitted r (Feeds piece)) (r.state.send + fed_grant r 0 piece) (fed r piece).state.send (none_fed is_bytes r piece all_of_streams) (omega (arith, grows_fed r piece))
granted r Starves = nothing_more [] (r.state.send + 0) (after r Starves).state.send refl (omega (arith, starved_send r.state.fault r))
granted r Hands = nothing_more [] (r.state.send + 0) (after r Hands).state.send refl (omega (arith, (stays_handed r.state r.state.events).connection))
granted r Takes = nothing_more (emitted r Takes) (r.state.send + 0) (after r Takes).state.send (none_due is_bytes r.state all_of_streams) (omega arith)
granted r (Opens fields last) = nothing_more (emitted r (Opens fields last)) (r.state.send + 0) (after r (Opens fields last)).state.send (none_opened is_bytes r fields last (λ _ _. refl) (λ _ _. refl)) (omega (arith, (stays_unless (refusal r.state) r.state (opened r.state fields last) (stays_opened r.state fields last)).connection))
granted r (Sends id piece last) =
    let e = data_sent is_bytes true r id piece last (λ _ _. refl) in
    rw e (omega (arith, sent_within r.state.fault r.state id piece last))
granted r (Resets id code) = nothing_more (emitted r (Resets id code)) (r.state.send + 0) (after r (Resets id code)).state.send (none_unless is_bytes r.state.fault (reset_frame id code ∷ []) refl) (omega (arith, (stays_unless r.state.fault r.state (reset r.state id code) (stays_given_up r.state id code)).connection))

pub bytes_in-append : (os ps : List Out) → length (bytes_in (os ++ ps)) ≡ length (bytes_in os) + length (bytes_in ps)
bytes_in-append os ps =
    ap (λ (x : List Out). length (payload x)) (filter-append is_bytes os ps)
    ∙ (ap length (payload-append (filter is_bytes os) (filter is_bytes ps))
    ∙ length-append (bytes_in os) (bytes_in ps))

pub all_within : (r : Reading) (cs : List Call) → length (bytes_in (all_emitted r cs)) + (run r cs).state.send ≤ r.state.send + all_granted r 0 cs
all_within r [] = omega arith
all_within r (c ∷ cs) = omega (arith, granted r c, all_within (after r c) cs, bytes_in-append (emitted r c) (all_emitted (after r c) cs))
