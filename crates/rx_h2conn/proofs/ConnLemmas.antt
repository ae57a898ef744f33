-- The connection after the client's calls.
use Rattle.std.proofs.Common.{◌≡◌, ℕ, ◌+◌, ◌-◌, ◌/◌, ◌^◌, ◌<◌, ◌≤◌, zero, suc, Bool, true, false, cond, ◌||◌, List, [], ◌∷◌, ◌++◌, length, get_or, set, map, refl, sym, subst, ◌∙◌, nat_eq, nat_lt, arith, length-append, Option, None, Some, Result, Ok, Err, OnOk, OnErr}
use Rattle.std.proofs.lemmas.Bool.{ltb-true}
use Rattle.rx_hpack.specs.Header.{Field}
use Rattle.rx_h2conn.specs.declared.fault.ConnFault.{ConnFault}
use Rattle.rx_h2conn.specs.declared.stream.Stream.{Stream}
use Rattle.rx_h2conn.specs.Session.{Session}
use Rattle.rx_h2conn.specs.Streams.{fresh, is_open, stream_at}
use Rattle.rx_h2conn.specs.Window.{spent}
use Rattle.rx_h2conn.specs.Sound.{IsSoundBy, IsSound, used}
use Rattle.rx_h2conn.specs.Credit.{due, connection_due, stream_due}
use Rattle.rx_h2conn.specs.Output.{given_up, AnswersAt, ends, charged, sent, reset, told, emptied}
use Rattle.rx_h2conn.specs.Open.{refused_by, refusal, opened}
use Rattle.rx_h2conn.specs.Reader.{IsConn}
use Rattle.rx_h2conn.proofs.DueLemmas.{due_left}
use Rattle.rx_h2conn.proofs.ListLemmas.{either}
use Rattle.rx_h2conn.proofs.SoundLemmas.{open_at, sound_left, sound_set, sound_less}
use Rattle.rx_h2conn.proofs.PieceLemmas.{within}

-- the streams with one more
pub get_or_pushed : (none : Stream) (xs : List Stream) (t : Stream) → t.receive + t.owed ≡ none.receive + none.owed → (k : ℕ) → (get_or (xs ++ t ∷ []) k none).receive + (get_or (xs ++ t ∷ []) k none).owed ≡ (get_or xs k none).receive + (get_or xs k none).owed
get_or_pushed none [] t same zero = same
get_or_pushed none [] t same (suc k) = refl
get_or_pushed none (x ∷ xs) t same zero = refl
get_or_pushed none (x ∷ xs) t same (suc k) = get_or_pushed none xs t same k

pub sound_opened : (s : Session) (fields : List Field) (last : Bool) → length s.streams < 1073741824 → IsSound s → IsSound (opened s fields last)
unfolding opened
sound_opened s fields last room h =
    let t : Stream = record fresh { client_done = last } in
    record {
      connection = h.connection;
      stream = λ k. omega (arith, h.stream k, get_or_pushed fresh s.streams t refl k);
      count = omega (arith, room, length-append s.streams (t ∷ []));
    }

pub opened-fault : (s : Session) (fields : List Field) (last : Bool) → (opened s fields last).fault ≡ s.fault
unfolding opened
opened-fault s fields last = refl

-- nothing stands against a stream
pub refused_none : (fault : Option ConnFault) (gone : Option ℕ) (room : Bool) → refused_by fault gone room ≡ None → (fault ≡ None) × (room ≡ true)
refused_none (Some e) away room h = absurd cc
refused_none None (Some last) room h = absurd cc
refused_none None None false h = absurd cc
refused_none None None true h = (refl, refl)

pub refusal_none : (s : Session) → refusal s ≡ None → (s.fault ≡ None) × (length s.streams < 1073741824)
refusal_none s h =
    let both = refused_none s.fault s.gone (nat_lt (length s.streams) 1073741824) h in
    (both.0, ltb-true _ _ both.1)

pub sound_sent : (s : Session) (id : ℕ) (piece : List ℕ) (last : Bool) → is_open s id ≡ true → IsSound s → IsSound (sent s id piece last)
unfolding sent
sound_sent s id piece last is h =
    let t : Stream = record (stream_at s id) { send = spent (stream_at s id).send (charged s id (length piece)); client_done = (stream_at s id).client_done || ends s id (length piece) last } in
    sound_left fresh (record s { streams = set s.streams (id / 2) t }) _ (record { receive = refl; owed = refl; streams = refl; events = refl }) (sound_set fresh s (id / 2) t (open_at s id is) refl h)

pub sent-fault : (s : Session) (id : ℕ) (piece : List ℕ) (last : Bool) → (sent s id piece last).fault ≡ s.fault
unfolding sent
sent-fault s id piece last = refl

pub sound_given_up : (s : Session) (id code : ℕ) → is_open s id ≡ true → IsSound s → IsSound (reset s id code)
unfolding reset
sound_given_up s id code is h =
    let t : Stream = given_up (stream_at s id) in
    sound_left fresh (record s { streams = set s.streams (id / 2) t }) _ (record { receive = refl; owed = refl; streams = refl; events = refl }) (sound_less fresh s (id / 2) t (open_at s id is) (omega arith) h)

pub reset-fault : (s : Session) (id code : ℕ) → (reset s id code).fault ≡ s.fault
unfolding reset
reset-fault s id code = refl

-- The connection after a call that answers as it should, and changes nothing where it fails.
pub conn_answered : {A : Type 0} (o : Option ConnFault) (old want new : Session) (value : A) (r : Result A ConnFault) (rest : List ℕ) (n : ℕ) → AnswersAt o old want value new r → (o ≡ None → old.fault ≡ None) → (o ≡ None → IsSound old → IsSound want) → want.fault ≡ old.fault → IsConn (record { state = old; rest = rest }) n → IsConn (record { state = new; rest = rest }) n
conn_answered (Some e) old want new value r rest n d f g e2 h = subst (λ (s : Session). IsConn (record { state = s; rest = rest }) n) (sym d.0) h
conn_answered None old want new value (Ok v) rest n d f g e h =
    let was : old.fault ≡ None = f refl in
    let ready = h.ready was in
    let sound = g refl ready.sound in
    let fault : want.fault ≡ None = e ∙ was in
    let conn : IsConn (record { state = want; rest = rest }) n = record { ready = λ _. record { fault = fault; lacks = ready.lacks; sound = sound }; within = within want sound } in
    subst (λ (s : Session). IsConn (record { state = s; rest = rest }) n) (sym d.0) conn
conn_answered None old want new value (Err x) rest n d f g e h = subst (λ (s : Session). IsConn (record { state = s; rest = rest }) n) (sym d.0) h

-- no more is told than is owed
pub due_few : (n : ℕ) → due n ≤ n
due_few n = either (λ x. x ≤ n) (nat_lt n 4194304) 0 n (λ _. omega arith) (λ _. omega arith)

pub stream_due_few : (t : Stream) → stream_due t ≤ t.owed
stream_due_few t = either (λ x. x ≤ t.owed) t.server_done 0 (due t.owed) (λ _. omega arith) (λ _. due_few t.owed)

pub connection_due_few : (s : Session) → connection_due s ≤ s.owed
connection_due_few s = either (λ x. x ≤ s.owed) (nat_eq (length s.streams) 0) 0 (due s.owed) (λ _. omega arith) (λ _. due_few s.owed)

-- what is told and what is owed still
pub told_same : (t : Stream) → (told t).receive + (told t).owed ≡ t.receive + t.owed
told_same t = omega (arith, stream_due_few t)

-- the output was taken
pub get_or_told : (none : Stream) (xs : List Stream) (k : ℕ) → (get_or (map told xs) k none).receive + (get_or (map told xs) k none).owed ≡ (get_or xs k none).receive + (get_or xs k none).owed
get_or_told none [] k = refl
get_or_told none (x ∷ xs) zero = told_same x
get_or_told none (x ∷ xs) (suc k) = get_or_told none xs k

pub length_told : (xs : List Stream) → length (map told xs) ≡ length xs
length_told [] = refl
length_told (x ∷ xs) = omega (arith, length_told xs)

-- no credit is due once the output was taken
pub connection_told : (s : Session) → connection_due (emptied s) ≡ 0
connection_told s =
    let same = length_told s.streams in
    rw same (elim (nat_eq (length s.streams) 0) as (λ b. cond b 0 (due (s.owed - cond b 0 (due s.owed))) ≡ 0) [
      | true ↦ refl
      | false ↦ due_left s.owed
    ])

pub sound_emptied : (none : Stream) (s : Session) → IsSoundBy none s → IsSoundBy none (emptied s)
sound_emptied none s h = record {
  connection = omega (arith, h.connection, connection_due_few s);
  stream = λ k. omega (arith, h.stream k, get_or_told none s.streams k);
  count = omega (arith, h.count, length_told s.streams);
}

pub conn_emptied : (s : Session) (rest : List ℕ) (n : ℕ) → IsConn (record { state = s; rest = rest }) n → IsConn (record { state = emptied s; rest = rest }) n
conn_emptied s rest n h = record {
  ready = λ none. let ready = h.ready none in record { fault = none; lacks = ready.lacks; sound = sound_emptied fresh s ready.sound };
  within = sound_emptied used s h.within;
}

pub conn_taken : {A E : Type 0} (old new : Session) (r : Result A E) (rest : List ℕ) (n : ℕ) → OnOk r (new ≡ emptied old) → OnErr r (new ≡ old) → IsConn (record { state = old; rest = rest }) n → IsConn (record { state = new; rest = rest }) n
conn_taken old new (Ok v) rest n d e h = subst (λ (s : Session). IsConn (record { state = s; rest = rest }) n) (sym d) (conn_emptied old rest n h)
conn_taken old new (Err v) rest n d e h = subst (λ (s : Session). IsConn (record { state = s; rest = rest }) n) (sym e) h

-- a stream's number fits
pub small_id : (s : Session) (id : ℕ) → is_open s id ≡ true → length s.streams ≤ 1073741824 → id < 2 ^ 31
small_id s id is few = let small = open_at s id is in omega (arith, small, few)
