-- Each kind of frame uses no more of a window than its size.
use Rattle.std.proofs.Common.{◌≡◌, ℕ, ◌+◌, ◌/◌, inr, Bool, true, false, not, ◌&&◌, ◌||◌, List, [], ◌∷◌, ◌++◌, length, get_or, append-nil, refl, sym, ap, subst, ◌∙◌, nat_eq, nat_lt, arith, Option, None, Some, Result, Ok, Err}
use Rattle.std.proofs.lemmas.Bool.{or_parts, not-false}
use Rattle.rx_hpack.specs.declared.fault.HpackFault.{HpackFault}
use Rattle.rx_hpack.specs.declared.fault.HpackFault.TheVariants.{BadIndex, BadInteger, BadHuffman, SizeUpdate, ListTooLarge, NoMemory}
use Rattle.rx_hpack.specs.Header.{Field}
use Rattle.rx_hpack.specs.Decoder.{Ready, Progress}
use Rattle.rx_h2frame.specs.declared.kind.Kind.{Kind}
use Rattle.rx_h2frame.specs.declared.kind.Kind.TheVariants.{Data, Headers, Priority, ResetStream, Settings, PushPromise, Ping, GoAway, WindowUpdate, Continuation, Unknown}
use Rattle.rx_h2frame.specs.Flags.{is_set}
use Rattle.rx_h2frame.specs.Frame.{Whole}
use Rattle.rx_h2conn.specs.declared.settings.Asked.{Asked}
use Rattle.rx_h2conn.specs.declared.stream.Stream.{Stream}
use Rattle.rx_h2conn.specs.Session.{Session, Queued, Block, Gone, Headers as HeaderList}
use Rattle.rx_h2conn.specs.Streams.{passed, fresh, is_open, stream_at, is_dropped, is_interrupted, number_31}
use Rattle.rx_h2conn.specs.Data.{passes_window, on_data}
use Rattle.rx_h2conn.specs.Headers.{told_headers, headers_of, told_block, ended, on_headers, continued, continued_by, on_continuation}
use Rattle.rx_h2conn.specs.Updates.{overflows, on_connection_update, on_stream_update, on_window_update}
use Rattle.rx_h2conn.specs.Ping.{is_flooded, on_ping}
use Rattle.rx_h2conn.specs.Settings.{widens, on_entries, on_settings}
use Rattle.rx_h2conn.specs.Sound.{waiting}
use Rattle.rx_h2conn.specs.Ends.{reset_events, on_reset, on_go_away}
use Rattle.rx_h2conn.specs.Steps.{took_by}
use Rattle.rx_h2conn.proofs.ListLemmas.{either}
use Rattle.rx_h2conn.proofs.SoundLemmas.{open_at}
use Rattle.rx_h2conn.proofs.UsesLemmas.{AllOwned, UsesAt, Uses, at_none, uses_told, uses_none, uses_failed, uses_set, or_both, uses_taken}

pub uses_passed : (n : ℕ) (s : Session) → Uses n s (passed s)
unfolding passed
uses_passed n s = either (Uses n s) (is_interrupted s) _ _ (λ _. uses_failed n s 1) (λ _. uses_none n s s refl refl refl refl (omega arith))

pub uses_data : (s : Session) (f : Whole) → Uses f.size s (on_data s f)
unfolding on_data
uses_data s f =
    let n = f.size in
    let P = Uses n s in
    either P (passes_window s f) _ _ (λ _. uses_failed n s 3) (λ _.
    either P (is_interrupted s || not (is_open s f.stream)) _ _ (λ _. uses_failed n s 1) (λ fine.
    either P (is_dropped (stream_at s f.stream)) _ _
    (λ _. record {
      told = [];
      events = sym (append-nil s.events);
      owners = tt;
      count = refl;
      receive = omega arith;
      blank = λ none. let small = open_at s f.stream (not-false _ (or_parts _ _ fine).1) in absurd (omega (arith, small, none));
      credit = omega arith;
      stream = λ k. at_none n 0 (get_or s.streams k fresh);
      acks = omega arith;
    })
    (λ _. uses_taken s f (is_set f.flags 1) (not-false _ (or_parts _ _ fine).1))))

pub owned_reset : (n : ℕ) (f : Whole) (done : Bool) → AllOwned n (reset_events f done)
owned_reset n f true = tt
owned_reset n f false = (inr refl, tt)

pub or_done : (a b : Bool) → (a || true) ≡ false → (a || b) ≡ false
or_done true b h = absurd cc
or_done false b h = absurd cc

pub uses_reset : (n : ℕ) (s : Session) (f : Whole) → Uses n s (on_reset s f)
unfolding on_reset
uses_reset n s f =
    let t = stream_at s f.stream in
    let P = Uses n s in
    either P (is_interrupted s || not (is_open s f.stream)) _ _ (λ _. uses_failed n s 1) (λ _.
    either P t.client_reset _ _ (λ _. uses_none n s s refl refl refl refl (omega arith)) (λ _.
    uses_set n s _ (f.stream / 2) _ (reset_events f t.server_done) refl refl refl
    (record { dropped = or_done t.client_reset t.server_done; receive = omega arith; credit = omega arith })
    refl (owned_reset (length s.streams) f t.server_done) refl))

pub uses_go_away : (n : ℕ) (s : Session) (f : Whole) → Uses n s (on_go_away s f)
unfolding on_go_away
uses_go_away n s f =
    either (Uses n s) (is_interrupted s) _ _ (λ _. uses_failed n s 1) (λ _.
    uses_told n s _ (record { event = Gone (number_31 f.body); stream = 0; credit = 0 } ∷ []) refl refl refl refl (inr refl, tt) (omega arith))

pub uses_connection_update : (n : ℕ) (s : Session) (size : ℕ) → Uses n s (on_connection_update s size)
unfolding on_connection_update
uses_connection_update n s size =
    let P = Uses n s in
    either P (nat_lt 2147483647 (s.send + size)) _ _ (λ _. uses_failed n s 3) (λ _.
    either P (is_interrupted s || nat_eq size 0) _ _ (λ _. uses_failed n s 1) (λ _. uses_none n s _ refl refl refl refl (omega arith)))

pub uses_stream_update : (n : ℕ) (s : Session) (id size : ℕ) → Uses n s (on_stream_update s id size)
unfolding on_stream_update
uses_stream_update n s id size =
    let P = Uses n s in
    either P (not (is_open s id)) _ _ (λ _. uses_failed n s 1) (λ _.
    either P (overflows s.initial (stream_at s id) size) _ _ (λ _. uses_failed n s 3) (λ _.
    either P (is_interrupted s) _ _ (λ _. uses_failed n s 1) (λ _.
    either P (stream_at s id).client_reset _ _ (λ _. uses_none n s s refl refl refl refl (omega arith)) (λ _.
    either P (nat_eq size 0) _ _ (λ _. uses_failed n s 1) (λ _.
    uses_set n s _ (id / 2) _ [] refl refl refl (record { dropped = λ h. h; receive = omega arith; credit = omega arith }) (sym (append-nil s.events)) tt refl)))))

pub uses_window_update : (n : ℕ) (s : Session) (f : Whole) → Uses n s (on_window_update s f)
unfolding on_window_update
uses_window_update n s f = either (Uses n s) (nat_eq f.stream 0) _ _ (λ _. uses_connection_update n s _) (λ _. uses_stream_update n s f.stream _)

-- a state with another decoder or sequence
pub uses_from : (n : ℕ) (s r x : Session) → r.receive ≡ s.receive → r.owed ≡ s.owed → r.streams ≡ s.streams → r.events ≡ s.events → r.acks ≡ s.acks → Uses n r x → Uses n s x
uses_from n s r x receive owed streams events acks u = record {
  told = u.told;
  events = u.events ∙ ap (λ (qs : List Queued). qs ++ u.told) events;
  owners = subst (λ (ts : List Stream). AllOwned (length ts) u.told) streams u.owners;
  count = u.count ∙ ap length streams;
  receive = omega (arith, receive, u.receive);
  blank = λ none. let same = ap length streams in omega (arith, receive, u.blank (same ∙ none));
  credit = omega (arith, receive, owed, u.credit);
  stream = subst (λ (ts : List Stream). (k : ℕ) → UsesAt n (waiting k u.told) (get_or ts k fresh) (get_or x.streams k fresh)) streams u.stream;
  acks = omega (arith, acks, u.acks);
}

pub uses_told_headers : (n : ℕ) (s : Session) (id : ℕ) (list : List Field) (last : Bool) → Uses n s (told_headers s id list last)
unfolding told_headers
uses_told_headers n s id list last =
    let t = stream_at s id in
    let P = Uses n s in
    either P (not (is_open s id)) _ _ (λ _. uses_failed n s 1) (λ _.
    either P (is_dropped t) _ _ (λ _. uses_none n s s refl refl refl refl (omega arith)) (λ _.
    uses_set n s _ (id / 2) _ (record { event = HeaderList id list last; stream = id; credit = 0 } ∷ []) refl refl refl
    (record { dropped = or_both t.client_reset t.server_done last; receive = omega arith; credit = omega arith })
    refl (inr refl, tt) refl))

pub uses_block : (x : Result Progress HpackFault) (n : ℕ) (s : Session) (id : ℕ) (last : Bool) → Uses n s (told_block x s id last)
uses_block (Ok read) n s id last = uses_from n s (record s { decoder = Ready read.table }) _ refl refl refl refl refl (uses_told_headers n (record s { decoder = Ready read.table }) id read.fields last)
uses_block (Err ListTooLarge) n s id last = uses_none n s _ refl refl refl refl (omega arith)
uses_block (Err BadIndex) n s id last = uses_none n s _ refl refl refl refl (omega arith)
uses_block (Err BadInteger) n s id last = uses_none n s _ refl refl refl refl (omega arith)
uses_block (Err BadHuffman) n s id last = uses_none n s _ refl refl refl refl (omega arith)
uses_block (Err SizeUpdate) n s id last = uses_none n s _ refl refl refl refl (omega arith)
uses_block (Err NoMemory) n s id last = uses_none n s _ refl refl refl refl (omega arith)

pub uses_ended : (n : ℕ) (s : Session) (id : ℕ) (block : List ℕ) (last : Bool) → Uses n s (ended s id block last)
unfolding ended
uses_ended n s id block last = uses_block (headers_of s.decoder block) n s id last

pub uses_headers : (n : ℕ) (s : Session) (f : Whole) → Uses n s (on_headers s f)
unfolding on_headers
uses_headers n s f =
    let P = Uses n s in
    either P (is_interrupted s) _ _ (λ _. uses_failed n s 1) (λ _.
    either P (is_set f.flags 4) _ _ (λ _. uses_ended n s f.stream f.body (is_set f.flags 1)) (λ _.
    either P (not (is_open s f.stream)) _ _ (λ _. uses_failed n s 1) (λ _. uses_none n s _ refl refl refl refl (omega arith))))

pub uses_continued : (q : Block) (n : ℕ) (s : Session) (f : Whole) → Uses n s (continued q s f)
unfolding continued
uses_continued q n s f =
    let P = Uses n s in
    either P (not (nat_eq q.stream f.stream)) _ _ (λ _. uses_failed n s 1) (λ _.
    either P (nat_lt 65536 (length q.block + length f.body) || not (nat_lt q.count 1024)) _ _ (λ _. uses_failed n s 11) (λ _.
    either P (is_set f.flags 4) _ _ (λ _. uses_ended n s q.stream (q.block ++ f.body) q.last) (λ _. uses_none n s _ refl refl refl refl (omega arith))))

pub uses_continued_by : (o : Option Block) (n : ℕ) (s : Session) (f : Whole) → Uses n s (continued_by o s f)
uses_continued_by None n s f = uses_failed n s 1
uses_continued_by (Some q) n s f = uses_continued q n s f

pub uses_continuation : (n : ℕ) (s : Session) (f : Whole) → Uses n s (on_continuation s f)
unfolding on_continuation
uses_continuation n s f = uses_from n s (record s { sequence = None }) _ refl refl refl refl refl (uses_continued_by s.sequence n (record s { sequence = None }) f)

pub uses_ping : (n : ℕ) (s : Session) (f : Whole) → Uses n s (on_ping s f)
unfolding on_ping
uses_ping n s f =
    let P = Uses n s in
    either P (not (is_set f.flags 1) && is_flooded s) _ _ (λ _. uses_failed n s 11) (λ _.
    either P (is_interrupted s) _ _ (λ _. uses_failed n s 1) (λ _.
    either P (is_set f.flags 1) _ _ (λ _. uses_none n s s refl refl refl refl (omega arith)) (λ _. uses_none n s _ refl refl refl refl (omega arith))))

pub uses_entries : (n : ℕ) (s : Session) (a : Asked) → Uses n s (on_entries s a)
unfolding on_entries
uses_entries n s a =
    let P = Uses n s in
    either P (widens s a) _ _ (λ _. uses_failed n s 3) (λ _.
    either P (is_flooded s) _ _ (λ _. uses_failed n s 11) (λ _.
    either P (is_interrupted s || a.is_wrong) _ _ (λ _. uses_failed n s 1) (λ _. uses_none n s _ refl refl refl refl (omega arith))))

pub uses_settings : (n : ℕ) (s : Session) (f : Whole) → Uses n s (on_settings s f)
unfolding on_settings
uses_settings n s f = either (Uses n s) (is_set f.flags 1) _ _ (λ _. uses_passed n s) (λ _. uses_entries n s _)

pub uses_by : (k : Kind) (s : Session) (f : Whole) → Uses f.size s (took_by k s f)
uses_by Data s f = uses_data s f
uses_by Headers s f = uses_headers f.size s f
uses_by Priority s f = uses_passed f.size s
uses_by ResetStream s f = uses_reset f.size s f
uses_by Settings s f = uses_settings f.size s f
uses_by PushPromise s f = uses_failed f.size s 1
uses_by Ping s f = uses_ping f.size s f
uses_by GoAway s f = uses_go_away f.size s f
uses_by WindowUpdate s f = uses_window_update f.size s f
uses_by Continuation s f = uses_continuation f.size s f
uses_by (Unknown byte) s f = uses_passed f.size s
