-- A run without a fault keeps its credit, and has told all of it but less than a quarter of a window once the events and the
-- output were taken.
use Rattle.std.proofs.Common.{◌≡◌, ℕ, ◌+◌, ◌/◌, ◌%◌, ◌<◌, ◌≤◌, inl, inr, zero, suc, Bool, true, false, ◌||◌, List, [], ◌∷◌, ◌++◌, length, get_or, set, map, append-nil, length-append, length-set, refl, sym, ap, subst, ◌∙◌, nat_eq, nat_lt, arith, Option, None, Some}
use Rattle.std.proofs.lemmas.Bool.{eqb-true, ltb-true, ltb-false, lt-ltb, and_parts}
use Rattle.rx_hpack.specs.Header.{Field}
use Rattle.rx_h2conn.specs.declared.fault.ConnFault.{ConnFault}
use Rattle.rx_h2conn.specs.declared.stream.Stream.{Stream}
use Rattle.rx_h2conn.specs.Session.{Session, Reading, Queued}
use Rattle.rx_h2conn.specs.Streams.{fresh, stream_at, is_dropped}
use Rattle.rx_h2conn.specs.Sound.{credits, waiting}
use Rattle.rx_h2conn.specs.Conn.{started}
use Rattle.rx_h2conn.specs.Open.{refusal, opened}
use Rattle.rx_h2conn.specs.Credit.{due, connection_due}
use Rattle.rx_h2conn.specs.Output.{given_up, sent, reset, told, emptied}
use Rattle.rx_h2conn.specs.Steps.{unless_failed, broken}
use Rattle.rx_h2conn.specs.History.{Call, Feeds, Starves, Hands, Takes, Opens, Sends, Resets, unless, after, run}
use Rattle.rx_h2conn.proofs.ConnLemmas.{connection_due_few, get_or_told, get_or_pushed, length_told}
use Rattle.rx_h2conn.proofs.ListLemmas.{each_beside, either}
use Rattle.rx_h2conn.specs.Paced.{IsRestored, Restores, FitsNext}
use Rattle.rx_h2conn.proofs.UsesLemmas.{AllOwned, IsOwned, IsFull, full_by, uses_set}
use Rattle.rx_h2conn.proofs.FitLemmas.{restored_fits}
use Rattle.rx_h2conn.proofs.HeardCallLemmas.{none_before}
use Rattle.rx_h2conn.proofs.PaceLemmas.{IsWhole, whole_fed, full_handed}

pub dropped_told : (xs : List Stream) (k : ℕ) → is_dropped (get_or (map told xs) k fresh) ≡ is_dropped (get_or xs k fresh)
dropped_told [] k = refl
dropped_told (x ∷ xs) zero = refl
dropped_told (x ∷ xs) (suc k) = dropped_told xs k

pub dropped_parts : (a b : Bool) → (a || b) ≡ false → b ≡ false
dropped_parts true b h = absurd cc
dropped_parts false b h = h

-- credit that isn't told is less than a quarter of a window
pub due_most : (n : ℕ) → n < due n + 4194304
due_most n = either (λ x. n < x + 4194304) (nat_lt n 4194304) 0 n (λ is. let few : n < 4194304 = ltb-true _ _ is in omega (arith, few)) (λ _. omega arith)

pub told_receive : (t : Stream) → is_dropped t ≡ false → t.receive + t.owed < (told t).receive + 4194304
told_receive t kept =
    let going : t.server_done ≡ false = dropped_parts t.client_reset t.server_done kept in
    let most = due_most t.owed in
    rw going (omega (arith, most))

pub all_told : (xs : List Stream) (k : ℕ) → k < length xs → is_dropped (get_or xs k fresh) ≡ false → (get_or xs k fresh).receive + (get_or xs k fresh).owed < (get_or (map told xs) k fresh).receive + 4194304
all_told [] k small kept = absurd (omega (arith, small))
all_told (x ∷ xs) zero small kept = told_receive x kept
all_told (x ∷ xs) (suc k) small kept = all_told xs k (omega (arith, small)) kept

pub full_emptied : (s : Session) → IsFull s → IsFull (emptied s)
full_emptied s f = record {
  connection = omega (arith, f.connection, connection_due_few s);
  blank = λ none. let same = length_told s.streams in omega (arith, f.blank (omega (arith, same, none)));
  stream = λ k kept. let was = f.stream k (sym (dropped_told s.streams k) ∙ kept) in omega (arith, was, get_or_told fresh s.streams k);
  owners = let same = length_told s.streams in rw same (f.owners);
}

pub dropped_pushed : (xs : List Stream) (k : ℕ) (t : Stream) → is_dropped t ≡ false → is_dropped (get_or (xs ++ t ∷ []) k fresh) ≡ is_dropped (get_or xs k fresh)
dropped_pushed [] zero t e = e
dropped_pushed [] (suc k) t e = refl
dropped_pushed (x ∷ xs) zero t e = refl
dropped_pushed (x ∷ xs) (suc k) t e = dropped_pushed xs k t e

pub owned_one : (n : ℕ) (q : Queued) → IsOwned n q → IsOwned (n + 1) q
owned_one n q (inr none) = inr none
owned_one n q (inl is) =
    let both = and_parts (nat_eq (q.stream % 2) 1) (nat_lt (q.stream / 2) n) is in
    let odd = both.0 in
    let small : q.stream / 2 < n = ltb-true _ _ both.1 in
    let more : nat_lt (q.stream / 2) (n + 1) ≡ true = lt-ltb _ _ (omega (arith, small)) in
    inl (rw (odd, more) refl)

pub owned_more : (n : ℕ) (qs : List Queued) → AllOwned n qs → AllOwned (n + 1) qs
owned_more n [] h = tt
owned_more n (q ∷ qs) h = (owned_one n q h.0, owned_more n qs h.1)

pub full_opened : (s : Session) (fields : List Field) (last : Bool) → IsFull s → IsFull (opened s fields last)
unfolding opened
full_opened s fields last f =
    let t : Stream = record fresh { client_done = last } in
    let count : length (s.streams ++ t ∷ []) ≡ length s.streams + 1 = length-append s.streams (t ∷ []) in
    record {
      connection = f.connection;
      blank = λ none. absurd (omega (arith, count, none));
      stream = λ k kept. let was = f.stream k (sym (dropped_pushed s.streams k t refl) ∙ kept) in omega (arith, was, get_or_pushed fresh s.streams t refl k);
      owners = rw count (owned_more (length s.streams) s.events f.owners);
    }

pub full_sent : (s : Session) (id : ℕ) (piece : List ℕ) (last : Bool) → IsFull s → IsFull (sent s id piece last)
unfolding sent
full_sent s id piece last f = full_by 0 s _ (uses_set 0 s _ (id / 2) _ [] refl refl refl (record { dropped = λ h. h; receive = omega arith; credit = omega arith }) (sym (append-nil s.events)) tt refl) f

pub full_given_up : (s : Session) (id code : ℕ) → IsFull s → IsFull (reset s id code)
unfolding reset
full_given_up s id code f =
    let t : Stream = given_up (stream_at s id) in
    -- one that isn't dropped is as it was
    let same : (k : ℕ) → is_dropped (get_or (set s.streams (id / 2) t) k fresh) ≡ false → get_or (set s.streams (id / 2) t) k fresh ≡ get_or s.streams k fresh =
    each_beside fresh (λ _ x y. is_dropped y ≡ false → y ≡ x) (λ _ _ _. refl) s.streams (id / 2) t (λ kept. absurd cc) in
    record {
      connection = f.connection;
      blank = λ none. f.blank (omega (arith, none, length-set s.streams (id / 2) t));
      stream = λ k kept. let at = same k kept in rw at (f.stream k (ap is_dropped (sym at) ∙ kept));
      owners = rw (length-set s.streams (id / 2) t) f.owners;
    }

pub full_unless : (o : Option ConnFault) (s x : Session) → IsFull s → IsFull x → IsFull (unless o s x)
full_unless None s x a b = b
full_unless (Some e) s x a b = a

pub whole_starved : (o : Option ConnFault) (r : Reading) → (unless_failed o r (broken r)).state.fault ≡ None → IsWhole r → IsWhole (unless_failed o r (broken r))
whole_starved None r none w = absurd cc
whole_starved (Some e) r none w = w

pub whole_after : (c : Call) (r : Reading) → (after r c).state.fault ≡ None → IsWhole r → IsWhole (after r c)
whole_after (Feeds piece) r none w = whole_fed piece r w
whole_after Starves r none w = whole_starved r.state.fault r none w
whole_after Hands r none w = record { full = full_handed r.state.events r.state refl w.full; rest = w.rest }
whole_after Takes r none w = record { full = full_emptied r.state w.full; rest = w.rest }
whole_after (Opens fields last) r none w = record { full = full_unless (refusal r.state) r.state _ w.full (full_opened r.state fields last w.full); rest = w.rest }
whole_after (Sends id piece last) r none w = record { full = full_unless r.state.fault r.state _ w.full (full_sent r.state id piece last w.full); rest = w.rest }
whole_after (Resets id code) r none w = record { full = full_unless r.state.fault r.state _ w.full (full_given_up r.state id code w.full); rest = w.rest }

pub whole_run : (cs : List Call) (r : Reading) → (run r cs).state.fault ≡ None → IsWhole r → IsWhole (run r cs)
whole_run [] r none w = w
whole_run (c ∷ cs) r none w = whole_run cs (after r c) none (whole_after c r (none_before cs (after r c) none) w)

pub whole_started : IsWhole started
whole_started = record {
  full = record { connection = omega arith; blank = λ none. omega arith; stream = λ k kept. omega arith; owners = tt };
  rest = omega arith;
}

pub run_append : (r : Reading) (a b : List Call) → run r (a ++ b) ≡ run (run r a) b
run_append r [] b = refl
run_append r (c ∷ a) b = run_append (after r c) a b

-- the connection's credit, where a stream was opened
pub connection_most : (s : Session) → 0 < length s.streams → s.owed < connection_due s + 4194304
connection_most s some = either (λ x. s.owed < x + 4194304) (nat_eq (length s.streams) 0) 0 (due s.owed) (λ is. let none : length s.streams ≡ 0 = eqb-true _ _ is in absurd (omega (arith, some, none))) (λ _. due_most s.owed)

-- before one was opened, and after
pub room_first : (s : Session) → IsFull s → credits s.events ≡ 0 → 65535 ≤ s.receive + connection_due s
room_first s f none =
    elim (nat_lt 0 (length s.streams)) as (λ b. nat_lt 0 (length s.streams) ≡ b → 65535 ≤ s.receive + connection_due s) [
      | true ↦ λ is. let some : 0 < length s.streams = ltb-true _ _ is in omega (arith, f.connection, none, connection_most s some)
      | false ↦ λ is. let few : length s.streams ≤ 0 = ltb-false _ _ is in omega (arith, f.blank (omega (arith, few)))
    ] refl

pub restored : (r : Reading) → IsWhole r → r.state.events ≡ [] → IsRestored (after r Takes)
restored r w empty =
    let f = w.full in
    let none : credits r.state.events ≡ 0 = ap credits empty in
    record {
      first = room_first r.state f none;
      receive = λ some.
          let same = length_told r.state.streams in
          omega (arith, f.connection, none, connection_most r.state (omega (arith, some, same)));
      streams = λ k small kept.
          let same = length_told r.state.streams in
          let old = sym (dropped_told r.state.streams k) ∙ kept in
          let was = f.stream k old in
          let nothing : waiting k r.state.events ≡ 0 = ap (waiting k) empty in
          omega (arith, was, nothing, all_told r.state.streams k (omega (arith, small, same)) old);
      acks = refl;
      rest = w.rest;
    }

pub restores : (calls : List Call) → Restores started calls
restores calls = λ calm. subst IsRestored (sym (run_append started calls (Takes ∷ []))) (restored (run started calls) (whole_run calls started calm.fault whole_started) calm.events)

pub fits_next : (calls : List Call) → FitsNext started calls
fits_next calls = λ piece few calm. restored_fits (run started (calls ++ Takes ∷ [])) piece (restores calls calm) few
