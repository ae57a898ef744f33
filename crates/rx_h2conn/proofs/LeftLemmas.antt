-- No more bytes of a stream are sent than its window lets through.
use Rattle.std.proofs.Common.{◌≡◌, ℕ, ◌+◌, ◌-◌, ◌/◌, ◌%◌, ◌≤◌, Bool, true, false, cond, not, ◌||◌, List, [], ◌∷◌, ◌++◌, length, get_or, set, refl, sym, ap, ◌∙◌, Option, None, Some, Result, Ok, Err, nat_eq, arith, length-take, length-append}
use Rattle.std.proofs.lemmas.Bool.{eqb-true, eq-eqb, and_parts, not-false}
use Rattle.rx_h2frame.specs.declared.frame.FrameFault.{FrameFault}
use Rattle.rx_h2frame.specs.declared.kind.Kind.{Kind}
use Rattle.rx_h2frame.specs.declared.kind.Kind.TheVariants.{Data, Headers, Priority, ResetStream, Settings, PushPromise, Ping, GoAway, WindowUpdate, Continuation, Unknown}
use Rattle.rx_h2frame.specs.Frame.{Whole, Seen, Complete, Lacks, next}
use Rattle.rx_h2conn.specs.declared.fault.ConnFault.{ConnFault}
use Rattle.rx_h2conn.specs.declared.stream.Stream.{Stream}
use Rattle.rx_h2conn.specs.declared.window.Window.{Window}
use Rattle.rx_h2conn.specs.Session.{Session, Reading}
use Rattle.rx_h2conn.specs.Streams.{failed, passed, fresh, is_open, stream_at, is_interrupted, number_31}
use Rattle.rx_h2conn.specs.Window.{room, spent, granted}
use Rattle.rx_h2conn.specs.Data.{on_data}
use Rattle.rx_h2conn.specs.Headers.{on_headers, on_continuation}
use Rattle.rx_h2conn.specs.Updates.{overflows, on_connection_update, on_stream_update, on_window_update}
use Rattle.rx_h2conn.specs.Ping.{on_ping}
use Rattle.rx_h2conn.specs.Settings.{on_settings}
use Rattle.rx_h2conn.specs.Ends.{on_reset, on_go_away}
use Rattle.rx_h2conn.specs.Steps.{took_by, judged, settled, more, unless_failed, byte, fed, broken, handed}
use Rattle.rx_h2conn.specs.Conn.{started}
use Rattle.rx_h2conn.specs.Emitted.{has_fault}
use Rattle.rx_h2conn.specs.Open.{refusal, opened}
use Rattle.rx_h2conn.specs.Output.{allowed, charged, ends, sent, reset, emptied}
use Rattle.rx_h2conn.specs.History.{Call, Feeds, Starves, Hands, Takes, Opens, Sends, Resets, after, run, unless, emitted}
use Rattle.rx_h2conn.specs.Carried.{bytes_on, written, bytes_unless, written_by, all_written}
use Rattle.rx_h2conn.specs.Granted.{grant_of, judged_grant, settled_grant, grant_unless, byte_grant, fed_grant, granted_by, all_granted, window_left, SendsHeld, AllSendHeld}
use Rattle.rx_h2conn.proofs.ListLemmas.{each_set, either}
use Rattle.rx_h2conn.proofs.SoundLemmas.{open_at}
use Rattle.rx_h2conn.proofs.ConnLemmas.{opened-fault, reset-fault}
use Rattle.rx_h2conn.proofs.PieceLemmas.{handed-fault}
use Rattle.rx_h2conn.proofs.CarriedLemmas.{carried, all_carried}
use Rattle.rx_h2conn.proofs.StaysLemmas.{window_at, Stays, stays_failed, stays_passed, stays_data, stays_reset, stays_go_away, stays_headers, stays_continuation, stays_ping, stays_settings, stays_connection_update, stays_handed, stays_emptied, stays_opened, stays_given_up, stays_unless}

-- a window is at most so much wider
abbrev pub Widens : ℕ → Window → Window → Type 0
Widens n old new = new.ahead + old.behind ≤ new.behind + old.ahead + n

pub widens_same : (n : ℕ) (old new : Window) → new ≡ old → Widens n old new
widens_same n old new e = rw e (omega arith)

pub widens_granted : (w : Window) (n : ℕ) → Widens n w (granted w n)
widens_granted w n = omega arith

-- the client's streams are odd, so the half tells them apart
pub is_odd : (s : Session) (id : ℕ) → is_open s id ≡ true → id % 2 ≡ 1
is_odd s id h = eqb-true _ _ (and_parts _ _ h).0

pub same_half : (i id : ℕ) → i % 2 ≡ 1 → id % 2 ≡ 1 → i / 2 ≡ id / 2 → i ≡ id
same_half i id a b h = omega arith

-- a stream's window grows at most by what a frame allows
abbrev pub Allows : ℕ → ℕ → Session → Session → Type 0
Allows n id s t = Widens (cond (has_fault t.fault) 0 n) (window_at s.streams (id / 2)) (window_at t.streams (id / 2))

pub allows_same : (n id : ℕ) (s t : Session) → window_at t.streams (id / 2) ≡ window_at s.streams (id / 2) → Allows n id s t
allows_same n id s t e = widens_same (cond (has_fault t.fault) 0 n) _ _ e

pub allows_none : (n id : ℕ) (s t : Session) → t.streams ≡ s.streams → Allows n id s t
allows_none n id s t e = allows_same n id s t (ap (λ (ts : List Stream). window_at ts (id / 2)) e)

pub no_fault : (o : Option ConnFault) (n : ℕ) → o ≡ None → cond (has_fault o) 0 n ≡ n
no_fault None n none = refl
no_fault (Some e) n none = absurd cc

-- on this stream all of it, on another nothing
pub widens_at : (i id n : ℕ) (old new : Window) → (i ≡ id → new ≡ granted old n) → i ≡ id → Widens (cond (nat_eq i id) n 0) old new
widens_at i id n old new is same =
    let e = eq-eqb i id same in
    let new_is = is same in
    rw (e, new_is) (widens_granted old n)

pub allows_granted : (s : Session) (i id n : ℕ) → s.fault ≡ None → is_open s i ≡ true → id % 2 ≡ 1 → Allows (cond (nat_eq i id) n 0) id s (record s { streams = set s.streams (i / 2) (record (stream_at s i) { send = granted (stream_at s i).send n }) })
allows_granted s i id n none is odd =
    let more = cond (nat_eq i id) n 0 in
    let t : Stream = record (stream_at s i) { send = granted (stream_at s i).send n } in
    let P : ℕ → Stream → Type 0 = λ k x. k ≡ id / 2 → Widens more (window_at s.streams k) x.send in
    let other : (k : ℕ) → (k ≡ i / 2 → ⊥) → P k (get_or s.streams k fresh) = λ k _ _. widens_same more (window_at s.streams k) (window_at s.streams k) refl in
    let at_i : P (i / 2) t = λ half. widens_at i id n (window_at s.streams (i / 2)) t.send (λ _. refl) (same_half i id (is_odd s i is) odd half) in
    let all = each_set fresh P s.streams (i / 2) t (open_at s i is) other at_i (id / 2) refl in
    let e = no_fault s.fault more none in
    rw e all

pub allows_stream : (s : Session) (i id n : ℕ) → s.fault ≡ None → id % 2 ≡ 1 → Allows (cond (nat_eq i id) n 0) id s (on_stream_update s i n)
unfolding on_stream_update
allows_stream s i id n none odd =
    let more = cond (nat_eq i id) n 0 in
    let P : Session → Type 0 = Allows more id s in
    either P (not (is_open s i)) _ _ (λ _. allows_none more id s (failed s 1) refl) (λ opened.
    either P (overflows s.initial (stream_at s i) n) _ _ (λ _. allows_none more id s (failed s 3) refl) (λ _.
    either P (is_interrupted s) _ _ (λ _. allows_none more id s (failed s 1) refl) (λ _.
    either P (stream_at s i).client_reset _ _ (λ _. allows_none more id s s refl) (λ _.
    either P (nat_eq n 0) _ _ (λ _. allows_none more id s (failed s 1) refl) (λ _.
    allows_granted s i id n none (not-false _ opened) odd)))))

pub allows_update : (s : Session) (f : Whole) (id : ℕ) → s.fault ≡ None → id % 2 ≡ 1 → Allows (grant_of id WindowUpdate f) id s (on_window_update s f)
unfolding on_window_update
allows_update s f id none odd =
    either (Allows (grant_of id WindowUpdate f) id s) (nat_eq f.stream 0) _ _
    (λ _. allows_none (grant_of id WindowUpdate f) id s (on_connection_update s (number_31 f.body)) (stays_connection_update s (number_31 f.body)))
    (λ _. allows_stream s f.stream id (number_31 f.body) none odd)

pub allows_stays : (id : ℕ) (s t : Session) → Stays s t → Allows 0 id s t
allows_stays id s t h = allows_same 0 id s t (h.streams (id / 2))

pub allows_took : (k : Kind) (s : Session) (f : Whole) (id : ℕ) → s.fault ≡ None → id % 2 ≡ 1 → Allows (grant_of id k f) id s (took_by k s f)
allows_took Data s f id none odd = allows_stays id s (on_data s f) (stays_data s f)
allows_took Headers s f id none odd = allows_stays id s (on_headers s f) (stays_headers s f)
allows_took Priority s f id none odd = allows_stays id s (passed s) (stays_passed s)
allows_took ResetStream s f id none odd = allows_stays id s (on_reset s f) (stays_reset s f)
allows_took Settings s f id none odd = allows_stays id s (on_settings s f) (stays_settings s f)
allows_took PushPromise s f id none odd = allows_stays id s (failed s 1) (stays_failed s 1)
allows_took Ping s f id none odd = allows_stays id s (on_ping s f) (stays_ping s f)
allows_took GoAway s f id none odd = allows_stays id s (on_go_away s f) (stays_go_away s f)
allows_took WindowUpdate s f id none odd = allows_update s f id none odd
allows_took Continuation s f id none odd = allows_stays id s (on_continuation s f) (stays_continuation s f)
allows_took (Unknown byte) s f id none odd = allows_stays id s (passed s) (stays_passed s)

-- as long as nothing failed: the window stands for so many bytes that were allowed, and so many that were written
abbrev pub Stands : Session → ℕ → ℕ → ℕ → Type 0
Stands s id granted written = s.fault ≡ None → (window_at s.streams (id / 2)).ahead + written ≤ (window_at s.streams (id / 2)).behind + granted

pub stands_judged : (r : Reading) (x : Result Seen FrameFault) (id g w : ℕ) → id % 2 ≡ 1 → r.state.fault ≡ None → Stands r.state id g w → Stands (judged r x).state id (g + judged_grant r id x) w
stands_judged r (Err e) id g w odd none h = λ _. omega (arith, h none)
stands_judged r (Ok (Lacks n)) id g w odd none h = λ _. omega (arith, h none)
stands_judged r (Ok (Complete f)) id g w odd none h = λ _. omega (arith, h none, allows_took f.kind r.state f id none odd)

pub stands_settled : (r : Reading) (id g w : ℕ) → id % 2 ≡ 1 → r.state.fault ≡ None → Stands r.state id g w → Stands (settled r).state id (g + settled_grant r id) w
unfolding settled settled_grant
stands_settled r id g w odd none h = stands_judged r (next 16384 r.rest) id g w odd none h

pub stands_unless : (o : Option ConnFault) (r n : Reading) (id g w more : ℕ) → (o ≡ None → Stands n.state id (g + more) w) → Stands r.state id g w → Stands (unless_failed o r n).state id (g + grant_unless o more) w
stands_unless None r n id g w more new old = new refl
stands_unless (Some e) r n id g w more new old = λ none. omega (arith, old none)

pub stands_byte : (r : Reading) (b id g w : ℕ) → id % 2 ≡ 1 → Stands r.state id g w → Stands (byte r b).state id (g + byte_grant r id b) w
unfolding byte byte_grant
stands_byte r b id g w odd h = stands_unless r.state.fault r (settled (more r (b ∷ []))) id g w (settled_grant (more r (b ∷ [])) id) (λ none. stands_settled (more r (b ∷ [])) id g w odd none h) h

pub stands_fed : (r : Reading) (p : List ℕ) (id g w : ℕ) → id % 2 ≡ 1 → Stands r.state id g w → Stands (fed r p).state id (g + fed_grant r id p) w
stands_fed r [] id g w odd h = λ none. omega (arith, h none)
stands_fed r (b ∷ p) id g w odd h =
    let rest = stands_fed (byte r b) p id (g + byte_grant r id b) w odd (stands_byte r b id g w odd h) in
    λ none. omega (arith, rest none)

-- the calls
pub stands_stays : (s t : Session) (id g w : ℕ) → t.fault ≡ s.fault → Stays s t → Stands s id g w → Stands t id (g + 0) (w + 0)
stands_stays s t id g w fault h old = λ none.
    let same = h.streams (id / 2) in
    let before = old (sym fault ∙ none) in
    rw same (omega (arith, before))

pub stands_starved : (o : Option ConnFault) (r : Reading) (id g w : ℕ) → Stands r.state id g w → Stands (unless_failed o r (broken r)).state id (g + 0) (w + 0)
stands_starved None r id g w h = λ none. absurd cc
stands_starved (Some e) r id g w h = λ none. omega (arith, h none)

pub unless-fault : (o : Option ConnFault) (s t : Session) → t.fault ≡ s.fault → (unless o s t).fault ≡ s.fault
unless-fault None s t e = e
unless-fault (Some x) s t e = refl

-- what is charged, and what isn't
pub charges_at : (i id n : ℕ) (g w : ℕ) (old new : Window) → new ≡ spent old n → old.ahead + w ≤ old.behind + g → i ≡ id → (bytes : List ℕ) → length bytes ≤ n → new.ahead + (w + length (cond (nat_eq i id) bytes [])) ≤ new.behind + (g + 0)
charges_at i id n g w old new is before same bytes few =
    let e = eq-eqb i id same in
    rw (e, is) (omega (arith, before, few))

pub other_empty : (i id : ℕ) (bytes : List ℕ) → (i ≡ id → ⊥) → length (cond (nat_eq i id) bytes []) ≡ 0
other_empty i id bytes other = either (λ (x : List ℕ). length x ≡ 0) (nat_eq i id) bytes [] (λ is. absurd (other (eqb-true i id is))) (λ _. refl)

pub no_bytes : (b : Bool) (empty : List ℕ) → empty ≡ [] → length (cond b empty empty) ≡ 0
no_bytes true empty is = rw is refl
no_bytes false empty is = rw is refl

pub stands_sent : (s : Session) (i : ℕ) (piece : List ℕ) (last : Bool) (id g w : ℕ) → is_open s i ≡ true → id % 2 ≡ 1 → Stands s id g w → Stands (sent s i piece last) id (g + 0) (w + length (cond (nat_eq i id) (written s i piece) []))
unfolding sent
stands_sent s i piece last id g w is odd old = λ none.
    let n = charged s i (length piece) in
    let bytes = written s i piece in
    let len = length (cond (nat_eq i id) bytes []) in
    let t : Stream = record (stream_at s i) { send = spent (stream_at s i).send n; client_done = (stream_at s i).client_done || ends s i (length piece) last } in
    let before = old none in
    let P : ℕ → Stream → Type 0 = λ k x. k ≡ id / 2 → x.send.ahead + (w + len) ≤ x.send.behind + (g + 0) in
    let other : (k : ℕ) → (k ≡ i / 2 → ⊥) → P k (get_or s.streams k fresh) = λ k apart here.
    let empty = other_empty i id bytes (λ same. apart (here ∙ ap (λ (x : ℕ). x / 2) (sym same))) in
    rw here (omega (arith, before, empty)) in
    let at_i : P (i / 2) t = λ half.
    let there = rw (sym half) at before in
    charges_at i id n g w (window_at s.streams (i / 2)) t.send refl there (same_half i id (is_odd s i is) odd half) bytes (omega (arith, length-take n piece)) in
    each_set fresh P s.streams (i / 2) t (open_at s i is) other at_i (id / 2) refl

pub stands_sends : (o : Option ConnFault) (s t : Session) (i id g w : ℕ) (bytes : List ℕ) → (o ≡ None → Stands t id (g + 0) (w + length (cond (nat_eq i id) bytes []))) → Stands s id g w → Stands (unless o s t) id (g + 0) (w + length (cond (nat_eq i id) (bytes_unless o bytes) []))
stands_sends None s t i id g w bytes new old = new refl
stands_sends (Some e) s t i id g w bytes new old = λ none. omega (arith, old none, no_bytes (nat_eq i id) [] refl)

pub stands_after : (r : Reading) (id : ℕ) (c : Call) (g w : ℕ) → id % 2 ≡ 1 → SendsHeld r c → Stands r.state id g w → Stands (after r c).state id (g + granted_by r id c) (w + length (written_by r id c))
stands_after r id (Feeds piece) g w odd held h = λ none. omega (arith, stands_fed r piece id g w odd h none)
stands_after r id Starves g w odd held h = stands_starved r.state.fault r id g w h
stands_after r id Hands g w odd held h = stands_stays r.state (handed r.state r.state.events) id g w (handed-fault r.state r.state.events) (stays_handed r.state r.state.events) h
stands_after r id Takes g w odd held h = stands_stays r.state (emptied r.state) id g w refl (stays_emptied r.state) h
stands_after r id (Opens fields last) g w odd held h =
    let s = r.state in
    let new = opened s fields last in
    stands_stays s (unless (refusal s) s new) id g w (unless-fault (refusal s) s new (opened-fault s fields last)) (stays_unless (refusal s) s new (stays_opened s fields last)) h
stands_after r id (Sends i piece last) g w odd held h =
    let s = r.state in
    stands_sends s.fault s (sent s i piece last) i id g w (written s i piece) (λ none. stands_sent s i piece last id g w (held none).opened odd h) h
stands_after r id (Resets i code) g w odd held h =
    let s = r.state in
    let new = reset s i code in
    stands_stays s (unless s.fault s new) id g w (unless-fault s.fault s new (reset-fault s i code)) (stays_unless s.fault s new (stays_given_up s i code)) h

pub stands_all : (r : Reading) (id : ℕ) (cs : List Call) (g w : ℕ) → id % 2 ≡ 1 → AllSendHeld r cs → Stands r.state id g w → Stands (run r cs).state id (g + all_granted r id cs) (w + length (all_written r id cs))
stands_all r id [] g w odd held h = λ none. omega (arith, h none)
stands_all r id (c ∷ cs) g w odd held h =
    let rest = stands_all (after r c) id cs (g + granted_by r id c) (w + length (written_by r id c)) odd held.1 (stands_after r id c g w odd held.0 h) in
    λ none. omega (arith, rest none, length-append (written_by r id c) (all_written (after r c) id cs))

-- what is written is never more than what is left
pub charged_room : (s : Session) (id size : ℕ) → charged s id size ≤ room s.initial (stream_at s id).send
charged_room s id size = either (λ n. n ≤ room s.initial (stream_at s id).send) (stream_at s id).server_reset 0 (allowed s id size) (λ _. omega arith) (λ _. omega arith)

pub left_unless : (o : Option ConnFault) (s : Session) (id : ℕ) (piece : List ℕ) (g w : ℕ) → (o ≡ None → (window_at s.streams (id / 2)).ahead + w ≤ (window_at s.streams (id / 2)).behind + g) → length (bytes_unless o (written s id piece)) ≤ s.initial + g - w
left_unless None s id piece g w h =
    let n = charged s id (length piece) in
    omega (arith, h refl, charged_room s id (length piece), length-take n piece)
left_unless (Some e) s id piece g w h = omega arith

pub left_by : (r : Reading) (id : ℕ) (c : Call) (g w : ℕ) → SendsHeld r c → (id % 2 ≡ 1 → Stands r.state id g w) → length (written_by r id c) ≤ r.state.initial + g - w
left_by r id (Feeds piece) g w held h = omega arith
left_by r id Starves g w held h = omega arith
left_by r id Hands g w held h = omega arith
left_by r id Takes g w held h = omega arith
left_by r id (Opens fields last) g w held h = omega arith
left_by r id (Sends i piece last) g w held h =
    let s = r.state in
    either (λ (x : List ℕ). length x ≤ s.initial + g - w) (nat_eq i id) (bytes_unless s.fault (written s i piece)) []
    (λ is. let same = eqb-true i id is in rw same (left_unless s.fault s id piece g w (λ none. h (rw same at (is_odd s i (held none).opened)) none)))
    (λ _. omega arith)
left_by r id (Resets i code) g w held h = omega arith

-- the last call of a run
pub held_before : (r : Reading) (cs : List Call) (c : Call) → AllSendHeld r (cs ++ c ∷ []) → AllSendHeld r cs × SendsHeld (run r cs) c
held_before r [] c h = (tt, h.0)
held_before r (d ∷ cs) c h =
    let rest = held_before (after r d) cs c h.1 in
    ((h.0, rest.0), rest.1)

pub all_left : (r : Reading) (id : ℕ) (cs : List Call) (c : Call) → r ≡ started → AllSendHeld r (cs ++ c ∷ []) → length (bytes_on id (emitted (run r cs) c)) ≤ window_left r id cs
all_left r id cs c new h =
    let held = held_before r cs c h in
    let first : Stands r.state id 0 0 = rw new (λ none. omega arith) in
    let stands : id % 2 ≡ 1 → Stands (run r cs).state id (0 + all_granted r id cs) (0 + length (all_written r id cs)) = λ odd. stands_all r id cs 0 0 odd held.0 first in
    let few = left_by (run r cs) id c (0 + all_granted r id cs) (0 + length (all_written r id cs)) held.1 stands in
    let e = carried (run r cs) id c in
    let all = all_carried r id cs in
    rw (e, all) (omega (arith, few))
