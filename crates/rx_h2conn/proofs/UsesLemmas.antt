-- What a frame of so many bytes uses of the windows that the client gave, and of its acknowledgements.
use Rattle.std.proofs.Common.{◌≡◌, ℕ, ◌+◌, ◌-◌, ◌/◌, ◌%◌, ◌≤◌, ◌⊎◌, inl, Bool, true, false, cond, not, ◌&&◌, ◌||◌, List, [], ◌∷◌, ◌++◌, length, get_or, set, append-nil, length-set, refl, sym, ap, ◌∙◌, nat_eq, nat_lt, arith}
use Rattle.std.proofs.lemmas.Bool.{and_parts}
use Rattle.std.proofs.lemmas.Bool.Decides.{nat_tests}
use Rattle.rx_h2frame.specs.Frame.{Whole}
use Rattle.rx_h2conn.specs.declared.stream.Stream.{Stream}
use Rattle.rx_h2conn.specs.Session.{Session, Queued, Bytes}
use Rattle.rx_h2conn.specs.Streams.{failed, fresh, is_open, stream_at, is_dropped}
use Rattle.rx_h2conn.specs.Data.{carried, heard, taken_data}
use Rattle.rx_h2conn.specs.Sound.{credits, waiting}
use Rattle.rx_h2conn.proofs.ListLemmas.{each_beside}
use Rattle.rx_h2conn.proofs.SoundLemmas.{credits-append, waiting-append, carried_few, open_at}

-- the credit of an event is that of a stream that was opened
abbrev pub IsOwned : ℕ → Queued → Type 0
IsOwned n q = ((nat_eq (q.stream % 2) 1 && nat_lt (q.stream / 2) n) ≡ true) ⊎ (q.credit ≡ 0)

abbrev pub AllOwned : ℕ → List Queued → Type 0
AllOwned n [] = Unit {0}
AllOwned n (q ∷ qs) = IsOwned n q × AllOwned n qs

-- Credit that was told, is owed or waits makes at least the windows that the client gave.
pub record IsFull (s : Session) : Type 0 where
  pub connection : 16777216 ≤ s.receive + s.owed + credits s.events
  -- before a stream was opened the server sent nothing that counts
  pub blank : length s.streams ≡ 0 → 65535 ≤ s.receive
  pub stream : (k : ℕ) → is_dropped (get_or s.streams k fresh) ≡ false → 16777216 ≤ (get_or s.streams k fresh).receive + (get_or s.streams k fresh).owed + waiting k s.events
  pub owners : AllOwned (length s.streams) s.events

-- A frame of n bytes took at most so many from a stream, whose credit is kept with what more waits.
pub record UsesAt (n more : ℕ) (old new : Stream) : Type 0 where
  pub dropped : is_dropped new ≡ false → is_dropped old ≡ false
  pub receive : old.receive ≤ new.receive + n
  pub credit : old.receive + old.owed ≤ new.receive + new.owed + more

-- the same of the connection and each stream, with one acknowledgement at most
pub record Uses (n : ℕ) (old new : Session) : Type 0 where
  pub told : List Queued
  pub events : new.events ≡ old.events ++ told
  pub owners : AllOwned (length old.streams) told
  pub count : length new.streams ≡ length old.streams
  pub receive : old.receive ≤ new.receive + n
  pub blank : length old.streams ≡ 0 → old.receive ≤ new.receive
  pub credit : old.receive + old.owed ≤ new.receive + new.owed + credits told
  pub stream : (k : ℕ) → UsesAt n (waiting k told) (get_or old.streams k fresh) (get_or new.streams k fresh)
  pub acks : new.acks ≤ old.acks + 1

pub owned_append : (n : ℕ) (qs ps : List Queued) → AllOwned n qs → AllOwned n ps → AllOwned n (qs ++ ps)
owned_append n [] ps a b = b
owned_append n (q ∷ qs) ps a b = (a.0, owned_append n qs ps a.1 b)

pub full_by : (n : ℕ) (s x : Session) → Uses n s x → IsFull s → IsFull x
full_by n s x u f =
    let events = u.events in
    let count = u.count in
    record {
      connection = let more = ap credits events ∙ credits-append s.events u.told in omega (arith, u.credit, f.connection, more);
      blank = λ none. let was = sym count ∙ none in omega (arith, f.blank was, u.blank was);
      stream = λ k kept.
          let at = u.stream k in
          let was = f.stream k (at.dropped kept) in
          let credit = at.credit in
          let more = ap (waiting k) events ∙ waiting-append k s.events u.told in
          omega (arith, was, credit, more);
      owners = rw (count, events) (owned_append (length s.streams) s.events u.told f.owners u.owners);
    }

pub at_none : (n more : ℕ) (t : Stream) → UsesAt n more t t
at_none n more t = record { dropped = λ h. h; receive = omega arith; credit = omega arith }

-- a step that leaves the windows and tells events without credit
pub uses_told : (n : ℕ) (s x : Session) (ps : List Queued) → x.receive ≡ s.receive → x.owed ≡ s.owed → x.streams ≡ s.streams → x.events ≡ s.events ++ ps → AllOwned (length s.streams) ps → x.acks ≤ s.acks + 1 → Uses n s x
uses_told n s x ps receive owed streams events owned acks = record {
  told = ps;
  events = events;
  owners = owned;
  count = ap length streams;
  receive = omega (arith, receive);
  blank = λ none. omega (arith, receive);
  credit = omega (arith, receive, owed);
  stream = λ k. rw streams (at_none n (waiting k ps) (get_or s.streams k fresh));
  acks = acks;
}

pub uses_none : (n : ℕ) (s x : Session) → x.receive ≡ s.receive → x.owed ≡ s.owed → x.streams ≡ s.streams → x.events ≡ s.events → x.acks ≤ s.acks + 1 → Uses n s x
uses_none n s x receive owed streams events acks = uses_told n s x [] receive owed streams (events ∙ sym (append-nil s.events)) tt acks

pub uses_failed : (n : ℕ) (s : Session) (code : ℕ) → Uses n s (failed s code)
uses_failed n s code = uses_none n s (failed s code) refl refl refl refl (omega arith)

-- one stream is written
pub uses_set : (n : ℕ) (s x : Session) (i : ℕ) (t : Stream) (ps : List Queued) → x.receive ≡ s.receive → x.owed ≡ s.owed → x.streams ≡ set s.streams i t → UsesAt n (waiting i ps) (get_or s.streams i fresh) t → x.events ≡ s.events ++ ps → AllOwned (length s.streams) ps → x.acks ≡ s.acks → Uses n s x
uses_set n s x i t ps receive owed streams at events owned acks = record {
  told = ps;
  events = events;
  owners = owned;
  count = ap length streams ∙ length-set s.streams i t;
  receive = omega (arith, receive);
  blank = λ none. omega (arith, receive);
  credit = omega (arith, receive, owed);
  stream = λ k. rw streams (each_beside fresh (λ j. UsesAt n (waiting j ps)) (λ j. at_none n (waiting j ps)) s.streams i t at k);
  acks = omega (arith, acks);
}

-- DATA that is told: its credit waits, or is owed at once
pub credits_data : (b : Bool) (f : Whole) (q : Queued) → (b ≡ true → carried f ≡ 0) → q.credit ≡ carried f → credits (cond b [] (q ∷ [])) ≡ carried f
credits_data true f q none is = sym (none refl)
credits_data false f q none is = omega (arith, is)

pub waiting_data : (b : Bool) (f : Whole) (q : Queued) → (b ≡ true → carried f ≡ 0) → q.credit ≡ carried f → q.stream ≡ f.stream → waiting (f.stream / 2) (cond b [] (q ∷ [])) ≡ carried f
waiting_data true f q none is at = sym (none refl)
waiting_data false f q none is at = grind (arith, nat_tests)

pub carried_none : (f : Whole) (last : Bool) → (nat_eq (length f.body) 0 && not last) ≡ true → carried f ≡ 0
carried_none f last h = rw (and_parts (nat_eq (length f.body) 0) (not last) h).0 refl

pub owned_data : (b : Bool) (n : ℕ) (q : Queued) → ((nat_eq (q.stream % 2) 1 && nat_lt (q.stream / 2) n) ≡ true) → AllOwned n (cond b [] (q ∷ []))
owned_data true n q is = tt
owned_data false n q is = (inl is, tt)

pub or_both : (a b c : Bool) → (a || (b || c)) ≡ false → (a || b) ≡ false
or_both true b c h = absurd cc
or_both false true c h = absurd cc
or_both false false c h = refl

pub uses_taken : (s : Session) (f : Whole) (last : Bool) → is_open s f.stream ≡ true → Uses f.size s (taken_data s f last)
uses_taken s f last opened =
    let i = f.stream / 2 in
    let b = nat_eq (length f.body) 0 && not last in
    let q : Queued = record { event = Bytes f.stream f.body last; stream = f.stream; credit = carried f } in
    let ps = cond b [] (q ∷ []) in
    let t : Stream = heard (stream_at s f.stream) f.size (f.size - carried f) last in
    let few = carried_few f in
    let all = credits_data b f q (carried_none f last) refl in
    let here = waiting_data b f q (carried_none f last) refl refl in
    let at : UsesAt f.size (waiting i ps) (stream_at s f.stream) t = record {
      dropped = or_both (stream_at s f.stream).client_reset (stream_at s f.stream).server_done last;
      receive = omega arith;
      credit = omega (arith, few, here);
    } in
    record {
      told = ps;
      events = refl;
      owners = owned_data b (length s.streams) q opened;
      count = length-set s.streams i t;
      receive = omega arith;
      blank = λ none. let small = open_at s f.stream opened in absurd (omega (arith, small, none));
      credit = omega (arith, few, all);
      stream = each_beside fresh (λ j. UsesAt f.size (waiting j ps)) (λ j. at_none f.size (waiting j ps)) s.streams i t at;
      acks = omega arith;
    }
