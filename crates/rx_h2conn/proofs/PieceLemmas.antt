-- The loop over a piece, and the connection after it.
use Rattle.std.proofs.Common.{◌≡◌, ℕ, ◌+◌, ◌-◌, ◌<◌, ◌≤◌, min, take, drop, true, false, not, ◌&&◌, nat_eq, nat_lt, List, [], ◌∷◌, ◌++◌, length, get_or, refl, sym, ap, subst, ◌∙◌, Some, None, Result, Ok, Err, OnOk, arith, length-take, length-drop}
use Rattle.std.proofs.lemmas.List.{take-append-drop, get_or_past}
use Rattle.std.proofs.lemmas.Bool.{ltb-true, ltb-false}
use Rattle.std.proofs.lemmas.Bool.Decides.{nat_tests}
use Rattle.rx_h2frame.specs.Frame.{Lacks, next}
use Rattle.rx_h2conn.specs.declared.fault.ConnFault.{ConnFault}
use Rattle.rx_h2conn.specs.declared.fault.ConnFault.TheVariants.{Protocol, GoneAway, StreamsSpent, NoMemory}
use Rattle.rx_h2conn.specs.Session.{Session, Reading, Queued}
use Rattle.rx_h2conn.specs.Streams.{fresh, is_open, stream_at}
use Rattle.rx_h2conn.specs.State.{Does, Keeps}
use Rattle.rx_h2conn.specs.Reader.{Reads, IsReady, IsConn}
use Rattle.rx_h2conn.specs.Sound.{credits, waiting, IsSound, used, IsWithin}
use Rattle.rx_h2conn.specs.Steps.{settled, more, fed, broken, handed, after_event}
use Rattle.rx_h2conn.specs.Data.{owe}
use Rattle.rx_h2conn.specs.Emitted.{settled_outs}
use Rattle.rx_h2conn.proofs.ListLemmas.{get_or_within, either}
use Rattle.rx_h2conn.proofs.SoundLemmas.{sound_handed}
use Rattle.rx_h2conn.proofs.FedLemmas.{fed_append, fed_failed, fed_front, sound_fed, adds_settled}
use Rattle.rx_h2conn.proofs.TookLemmas.{keeps, keeps_trans}

pub next_nothing : next 16384 [] ≡ Ok (Lacks 9)
unfolding next
next_nothing = refl

-- a frame was taken
pub ready_after : (old new want : Session) (rest : List ℕ) (r : Result (Unit {0}) ConnFault) → Does old new want r → IsSound want → rest ≡ [] → OnOk r (IsReady (record { state = new; rest = rest }) 9)
ready_after old new want rest (Ok u) d b e = record {
  fault = ap (λ (s : Session). s.fault) d.0 ∙ d.1;
  lacks = rw e next_nothing;
  sound = subst IsSound (sym d.0) b;
}
ready_after old new want rest (Err e) d b k = tt

-- what is kept while bytes are left
pub record IsFeeding (start now : Reading) (lacking : ℕ) (piece left : List ℕ) : Type 0 where
  pub fed_is : fed now left ≡ fed start piece
  pub ready : IsReady now lacking
  pub kept : Keeps start.state now.state

pub front_is_fed : (now : Reading) (n : ℕ) (front : List ℕ) → IsReady now n → 0 < length front → length front ≤ n → fed now front ≡ settled (more now front)
front_is_fed now n [] h some few = absurd (omega arith)
front_is_fed now n (b ∷ front) h some few = fed_front now n b front h.fault h.lacks few

pub feeding_goes_on : (start now new : Reading) (n m : ℕ) (piece left front back : List ℕ) → IsFeeding start now n piece left → left ≡ front ++ back → 0 < length front → length front ≤ n → new ≡ settled (more now front) → IsReady new m → IsFeeding start new m piece back
feeding_goes_on start now new n m piece left front back h e some few is ready = record {
  fed_is =
      ap (λ (r : Reading). fed r back) (is ∙ sym (front_is_fed now n front h.ready some few))
      ∙ (sym (fed_append now front back) ∙ (ap (fed now) (sym e) ∙ h.fed_is));
  ready = ready;
  kept = keeps_trans start.state now.state new.state h.kept (subst (λ (r : Reading). Keeps now.state r.state) (sym is) (keeps now.state (settled (more now front)).state (settled_outs (more now front)) (adds_settled (more now front) h.ready.fault)));
}

-- a fault in the front is the fault of the piece
pub fault_is_fed : (start now : Reading) (n : ℕ) (piece left front back : List ℕ) (e : ConnFault) → IsFeeding start now n piece left → left ≡ front ++ back → 0 < length front → length front ≤ n → (settled (more now front)).state.fault ≡ Some e → fed start piece ≡ settled (more now front)
fault_is_fed start now n piece left front back e h is some few fault =
    sym h.fed_is ∙ (ap (fed now) is ∙ (fed_append now front back
    ∙ (ap (λ (x : Reading). fed x back) (front_is_fed now n front h.ready some few)
    ∙ fed_failed (settled (more now front)) e back fault)))

pub feeding_fails : (start now new : Reading) (n : ℕ) (piece left front back : List ℕ) (e : ConnFault) → IsFeeding start now n piece left → left ≡ front ++ back → 0 < length front → length front ≤ n → Reads now new (settled (more now front)) (Err e) → Reads start new (fed start piece) (Err e)
feeding_fails start now new n piece left front back NoMemory h is some few r = keeps_trans start.state now.state new.state h.kept r
feeding_fails start now new n piece left front back (Protocol code) h is some few r =
    let done = fault_is_fed start now n piece left front back (Protocol code) h is some few r.1 in
    (r.0 ∙ sym done, ap (λ (x : Reading). x.state.fault) done ∙ r.1)
feeding_fails start now new n piece left front back (GoneAway last) h is some few r =
    let done = fault_is_fed start now n piece left front back (GoneAway last) h is some few r.1 in
    (r.0 ∙ sym done, ap (λ (x : Reading). x.state.fault) done ∙ r.1)
feeding_fails start now new n piece left front back StreamsSpent h is some few r =
    let done = fault_is_fed start now n piece left front back StreamsSpent h is some few r.1 in
    (r.0 ∙ sym done, ap (λ (x : Reading). x.state.fault) done ∙ r.1)

pub feeding_ends : (start now : Reading) (n : ℕ) (piece left : List ℕ) → IsFeeding start now n piece left → length left ≡ 0 → (now ≡ fed start piece) × ((fed start piece).state.fault ≡ None)
feeding_ends start now n piece [] h e = (h.fed_is, ap (λ (r : Reading). r.state.fault) (sym h.fed_is) ∙ h.ready.fault)
feeding_ends start now n piece (b ∷ left) h e = absurd (omega arith)

-- a piece is cut where enough is there
pub record IsCut (lacking : ℕ) (left front back : List ℕ) : Type 0 where
  pub whole : left ≡ front ++ back
  pub some : 0 < length front
  pub few : length front ≤ lacking
  pub less : length back < length left

pub cut : (lacking count : ℕ) (left front back : List ℕ) → 0 < lacking → false ≡ nat_eq (length left) 0 → count ≡ min lacking (length left) → front ≡ take count left → back ≡ drop count left → IsCut lacking left front back
cut lacking count left front back some test is f b =
    let any : 0 < length left = grind (arith, nat_tests) in
    let front_length : length front ≡ min count (length left) = ap length f ∙ length-take count left in
    let back_length : length back ≡ length left - count = ap length b ∙ length-drop count left in
    record {
      whole = sym (take-append-drop count left) ∙ (ap (λ (x : List ℕ). x ++ drop count left) (sym f) ∙ ap (λ (x : List ℕ). front ++ x) (sym b));
      some = omega (arith, any, some, is, front_length);
      few = omega (arith, is, front_length);
      less = omega (arith, any, some, is, back_length);
    }

-- sound windows are within their bounds, whatever counts as a stream that isn't there
pub waiting_credits : (k : ℕ) (qs : List Queued) → waiting k qs ≤ credits qs
waiting_credits k [] = omega arith
waiting_credits k (q ∷ qs) = grind (arith, nat_tests, waiting_credits k qs)

pub within : (s : Session) → IsSound s → IsWithin s
within s h = record {
  connection = h.connection;
  stream = λ k.
      elim (nat_lt k (length s.streams)) as (λ b. nat_lt k (length s.streams) ≡ b → (get_or s.streams k used).receive + (get_or s.streams k used).owed + waiting k s.events ≤ 16777216) [
        | true ↦ λ is. rw (get_or_within used fresh s.streams k (ltb-true _ _ is)) (h.stream k)
        | false ↦ λ is. rw (get_or_past s.streams k used (ltb-false _ _ is)) (omega (arith, h.connection, waiting_credits k s.events))
      ] refl;
  count = h.count;
}

pub within_broken : (r : Reading) → IsWithin r.state → IsWithin (broken r).state
within_broken r h = record {
  connection = omega (arith, h.connection);
  stream = λ k. omega (arith, h.connection, waiting_credits k r.state.events);
  count = omega arith;
}

-- the connection after a piece for which there was memory
pub conn_failed : (old new want : Reading) (m : ℕ) (e : ConnFault) → IsSound want.state → new ≡ want → want.state.fault ≡ Some e → IsConn new m
conn_failed old new want m e h is fault = record {
  ready = λ none. let some : new.state.fault ≡ Some e = ap (λ (r : Reading). r.state.fault) is ∙ fault in absurd cc;
  within = within new.state (subst (λ (r : Reading). IsSound r.state) (sym is) h);
}

pub conn_after : (old new : Reading) (n m : ℕ) (piece : List ℕ) (r : Result (Unit {0}) ConnFault) → (r ≡ Err NoMemory → ⊥) → IsReady old n → Reads old new (fed old piece) r → OnOk r (IsReady new m) → IsConn new m
conn_after old new n m piece (Ok u) other h d k = record { ready = λ _. k; within = within new.state k.sound }
conn_after old new n m piece (Err NoMemory) other h d k = absurd (other refl)
conn_after old new n m piece (Err (Protocol code)) other h d k = conn_failed old new (fed old piece) m (Protocol code) (sound_fed old piece h.sound) d.0 d.1
conn_after old new n m piece (Err (GoneAway last)) other h d k = conn_failed old new (fed old piece) m (GoneAway last) (sound_fed old piece h.sound) d.0 d.1
conn_after old new n m piece (Err StreamsSpent) other h d k = conn_failed old new (fed old piece) m StreamsSpent (sound_fed old piece h.sound) d.0 d.1

-- the connection after an event was handed out
pub owe-fault : (s : Session) (id credit : ℕ) → (owe s id credit).fault ≡ s.fault
unfolding owe
owe-fault s id credit = either (λ (t : Session). t.fault ≡ s.fault) (is_open s id && not (stream_at s id).client_reset) _ _ (λ _. refl) (λ _. refl)

pub handed-fault : (s : Session) (qs : List Queued) → (handed s qs).fault ≡ s.fault
handed-fault s [] = refl
handed-fault s (q ∷ qs) = owe-fault (record s { events = qs }) q.stream q.credit

pub conn_handed : (r : Reading) (n : ℕ) → IsConn r n → IsConn (after_event r) n
conn_handed r n h = record {
  ready = λ none.
      let was : r.state.fault ≡ None = sym (handed-fault r.state r.state.events) ∙ none in
      let ready = h.ready was in
      record { fault = none; lacks = ready.lacks; sound = sound_handed fresh r.state ready.sound };
  within = sound_handed used r.state h.within;
}
