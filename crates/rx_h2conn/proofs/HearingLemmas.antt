-- What a connection tells, and what the bytes tell, go on together.
use Rattle.std.proofs.Common.{◌≡◌, ℕ, ◌/◌, ◌%◌, Bool, true, false, not, ◌&&◌, ◌||◌, List, [], ◌∷◌, ◌++◌, length, get_or, set, append_assoc, length-set, filter, refl, sym, ap, subst, ◌∙◌, nat_eq, arith}
use Rattle.std.proofs.Math.Bool.{or-false}
use Rattle.std.proofs.lemmas.Bool.{eqb-true, eqb-false, and_parts}
use Rattle.std.proofs.lemmas.List.{get_or-set_same, get_or-set_other}
use Rattle.rx_h2conn.specs.declared.stream.Stream.{Stream}
use Rattle.rx_h2conn.specs.Session.{Session, Event}
use Rattle.rx_h2conn.specs.Streams.{fresh, is_open, stream_at, is_dropped}
use Rattle.rx_h2conn.proofs.ListLemmas.{each_beside}
use Rattle.rx_h2conn.proofs.SoundLemmas.{open_at}
use Rattle.rx_h2conn.specs.Part.{is_on, ends_stream}
use Rattle.rx_h2conn.specs.Incoming.{Incoming}
use Rattle.rx_h2conn.specs.Heard.{events_of}
use Rattle.rx_h2conn.proofs.EventLemmas.{SameAt, same_event, same_dropped, same_told, same_came, same_done, OnStream, silent_more}

-- h was handed out, and what waits is told as well
pub record Hearing (h : List Event) (s : Session) (t : Incoming) : Type 0 where
  pub going : t.broken ≡ false
  pub decoder : t.decoder ≡ s.decoder
  pub sequence : t.sequence ≡ s.sequence
  pub opened : (id : ℕ) → is_open s id ≡ true → (stream_at s id).client_reset ≡ false → SameAt id (stream_at s id).server_done (h ++ events_of s.events) t.events
  pub unopened : (id : ℕ) → is_open s id ≡ false → SameAt id false (h ++ events_of s.events) t.events
  pub silent : (id : ℕ) → is_open s id ≡ false → filter (is_on id) (h ++ events_of s.events) ≡ []

-- the two are the same to the server
pub record SameToServer (x y : Stream) : Type 0 where
  pub given_up : x.client_reset ≡ y.client_reset
  pub over : x.server_done ≡ y.server_done

-- nothing is told, and each stream is the same to the server
pub record Quiet (s new : Session) : Type 0 where
  pub count : length new.streams ≡ length s.streams
  pub each : (k : ℕ) → SameToServer (get_or new.streams k fresh) (get_or s.streams k fresh)
  pub told : events_of new.events ≡ events_of s.events

pub quiet_same : (s new : Session) → new.streams ≡ s.streams → events_of new.events ≡ events_of s.events → Quiet s new
quiet_same s new e w = record { count = ap length e; each = λ k. rw e (record { given_up = refl; over = refl }); told = w }

pub quiet_set : (s new : Session) (i : ℕ) (t : Stream) → new.streams ≡ set s.streams i t → SameToServer t (get_or s.streams i fresh) → events_of new.events ≡ events_of s.events → Quiet s new
quiet_set s new i t e same w = record {
  count = ap length e ∙ length-set s.streams i t;
  each = λ k. rw e (each_beside fresh (λ _ x y. SameToServer y x) (λ _ _. record { given_up = refl; over = refl }) s.streams i t same k);
  told = w;
}

pub quiet_from : (s r new : Session) → r.streams ≡ s.streams → r.events ≡ s.events → Quiet r new → Quiet s new
quiet_from s r new streams events q = record {
  count = q.count ∙ ap length streams;
  each = λ k. subst (λ (x : List Stream). SameToServer (get_or new.streams k fresh) (get_or x k fresh)) streams (q.each k);
  told = q.told ∙ ap events_of events;
}

-- a step that tells nothing
pub hearing_quiet : (h : List Event) (s new : Session) (t u : Incoming) → Hearing h s t → Quiet s new → u.broken ≡ false → u.decoder ≡ new.decoder → u.sequence ≡ new.sequence → u.events ≡ t.events → Hearing h new u
hearing_quiet h s new t u hear q going decoder sequence events = record {
  going = going;
  decoder = decoder;
  sequence = sequence;
  opened = λ id is kept.
      let count = q.count in
      let each = q.each (id / 2) in
      let was = hear.opened id (rw (sym count) is) (sym each.given_up ∙ kept) in
      same_came id _ _ t.events u.events events (same_told id _ (h ++ events_of s.events) _ _ (ap (λ (x : List Event). h ++ x) q.told) (same_done id _ _ _ _ each.over was));
  unopened = λ id is.
      let count = q.count in
      let was = hear.unopened id (rw (sym count) is) in
      same_came id _ _ t.events u.events events (same_told id _ (h ++ events_of s.events) _ _ (ap (λ (x : List Event). h ++ x) q.told) was);
  silent = λ id is.
      let count = q.count in
      ap (λ (x : List Event). filter (is_on id) (h ++ x)) q.told ∙ hear.silent id (rw (sym count) is);
}

-- what the one stream is and the other isn't, they aren't the same
pub not_same : (s : Session) (i id : ℕ) → is_open s i ≡ true → is_open s id ≡ false → nat_eq i id ≡ false
not_same s i id is isnt =
    elim (nat_eq i id) as (λ b. nat_eq i id ≡ b → b ≡ false) [
      | true ↦ λ e. let same : i ≡ id = eqb-true i id e in let both : is_open s id ≡ true = subst (λ (x : ℕ). is_open s x ≡ true) same is in absurd cc
      | false ↦ λ e. refl
    ] refl

pub no_end : (b ends : Bool) → b ≡ false → (false || (b && ends)) ≡ false
no_end true ends h = absurd cc
no_end false ends h = refl

pub not_on : (b done : Bool) → b ≡ false → (b && not done) ≡ false
not_on true done h = absurd cc
not_on false done h = refl

pub over_by : (given_up over on : Bool) → given_up ≡ false → (given_up || over) ≡ true → (on && not over) ≡ false
over_by true over on h d = absurd cc
over_by false true true h d = refl
over_by false true false h d = refl
over_by false false on h d = absurd cc

pub is_over : (s : Session) (i id : ℕ) (on : Bool) → is_dropped (stream_at s i) ≡ true → (stream_at s id).client_reset ≡ false → on ≡ nat_eq i id → (on && not (stream_at s id).server_done) ≡ false
is_over s i id on dropped kept is =
    elim (nat_eq i id) as (λ b. nat_eq i id ≡ b → (on && not (stream_at s id).server_done) ≡ false) [
      | true ↦ λ e.
          let same : i ≡ id = eqb-true i id e in
          let here : is_dropped (stream_at s id) ≡ true = subst (λ (x : ℕ). is_dropped (stream_at s x) ≡ true) same dropped in
          over_by (stream_at s id).client_reset (stream_at s id).server_done on kept here
      | false ↦ λ e. not_on on _ (is ∙ e)
    ] refl

-- an event of a stream whose events are dropped
pub hearing_dropped : (h : List Event) (s new : Session) (t u : Incoming) (i : ℕ) (e : Event) → Hearing h s t → is_open s i ≡ true → is_dropped (stream_at s i) ≡ true → OnStream i e → Quiet s new → u.broken ≡ false → u.decoder ≡ new.decoder → u.sequence ≡ new.sequence → u.events ≡ t.events ++ e ∷ [] → Hearing h new u
hearing_dropped h s new t u i e hear is_there dropped on q going decoder sequence events =
    let again : Hearing h s (record t { events = t.events ++ e ∷ [] }) = record {
      going = hear.going;
      decoder = hear.decoder;
      sequence = hear.sequence;
      opened = λ id is kept. same_dropped id _ _ _ e (hear.opened id is kept) (on.out id) (is_over s i id (is_on id e) dropped kept (on.on id));
      unopened = λ id is. same_dropped id _ _ _ e (hear.unopened id is) (on.out id) (not_on (is_on id e) false (on.on id ∙ not_same s i id is_there is));
      silent = hear.silent;
    } in
    hearing_quiet h s new (record t { events = t.events ++ e ∷ [] }) u again q going decoder sequence events

-- the stream at another number stays
pub other_stream : (s : Session) (i id : ℕ) (x : Stream) → is_open s i ≡ true → is_open s id ≡ true → nat_eq i id ≡ false → get_or (set s.streams (i / 2) x) (id / 2) fresh ≡ get_or s.streams (id / 2) fresh
other_stream s i id x first second other =
    let odd : i % 2 ≡ 1 = eqb-true _ _ (and_parts _ _ first).0 in
    let odd2 : id % 2 ≡ 1 = eqb-true _ _ (and_parts _ _ second).0 in
    get_or-set_other s.streams (i / 2) (id / 2) x fresh (λ e. eqb-false i id other (omega (arith, odd, odd2, e)))

-- whether the server has ended a stream after an event of the stream at i
pub done_after : (s : Session) (i id : ℕ) (x : Stream) (on ends : Bool) → is_open s i ≡ true → is_open s id ≡ true → on ≡ nat_eq i id → x.server_done ≡ ((stream_at s i).server_done || ends) → (get_or (set s.streams (i / 2) x) (id / 2) fresh).server_done ≡ ((stream_at s id).server_done || (on && ends))
done_after s i id x on ends first second is done =
    elim (nat_eq i id) as (λ b. nat_eq i id ≡ b → (get_or (set s.streams (i / 2) x) (id / 2) fresh).server_done ≡ ((stream_at s id).server_done || (on && ends))) [
      | true ↦ λ e.
          let same : i ≡ id = eqb-true i id e in
          let on_true : on ≡ true = is ∙ e in
          let there : get_or (set s.streams (i / 2) x) (i / 2) fresh ≡ x = get_or-set_same s.streams (i / 2) x fresh (open_at s i first) in
          let here : (get_or (set s.streams (i / 2) x) (i / 2) fresh).server_done ≡ ((stream_at s i).server_done || (on && ends)) = ap (λ (y : Stream). y.server_done) there ∙ (done ∙ rw on_true refl) in
          subst (λ (k : ℕ). (get_or (set s.streams (i / 2) x) (k / 2) fresh).server_done ≡ ((stream_at s k).server_done || (on && ends))) same here
      | false ↦ λ e.
          let on_false : on ≡ false = is ∙ e in
          ap (λ (y : Stream). y.server_done) (other_stream s i id x first second e)
          ∙ (sym (or-false _) ∙ rw on_false refl)
    ] refl

pub reset_after : (s : Session) (i id : ℕ) (x : Stream) → is_open s i ≡ true → is_open s id ≡ true → x.client_reset ≡ (stream_at s i).client_reset → (get_or (set s.streams (i / 2) x) (id / 2) fresh).client_reset ≡ (stream_at s id).client_reset
reset_after s i id x first second same_reset =
    elim (nat_eq i id) as (λ b. nat_eq i id ≡ b → (get_or (set s.streams (i / 2) x) (id / 2) fresh).client_reset ≡ (stream_at s id).client_reset) [
      | true ↦ λ e.
          let same : i ≡ id = eqb-true i id e in
          let there : get_or (set s.streams (i / 2) x) (i / 2) fresh ≡ x = get_or-set_same s.streams (i / 2) x fresh (open_at s i first) in
          subst (λ (k : ℕ). (get_or (set s.streams (i / 2) x) (k / 2) fresh).client_reset ≡ (stream_at s k).client_reset) same (ap (λ (y : Stream). y.client_reset) there ∙ same_reset)
      | false ↦ λ e. ap (λ (y : Stream). y.client_reset) (other_stream s i id x first second e)
    ] refl

-- an event of a stream that is told
pub hearing_event : (h : List Event) (s new : Session) (t u : Incoming) (i : ℕ) (x : Stream) (e : Event) → Hearing h s t → is_open s i ≡ true → OnStream i e → new.streams ≡ set s.streams (i / 2) x → x.client_reset ≡ (stream_at s i).client_reset → x.server_done ≡ ((stream_at s i).server_done || ends_stream e) → events_of new.events ≡ events_of s.events ++ e ∷ [] → u.broken ≡ false → u.decoder ≡ new.decoder → u.sequence ≡ new.sequence → u.events ≡ t.events ++ e ∷ [] → Hearing h new u
hearing_event h s new t u i x e hear is_there on streams given_up over told going decoder sequence events =
    let more : h ++ events_of new.events ≡ (h ++ events_of s.events) ++ e ∷ [] = ap (λ (y : List Event). h ++ y) told ∙ sym (append_assoc h (events_of s.events) (e ∷ [])) in
    let count : length new.streams ≡ length s.streams = ap length streams ∙ length-set s.streams (i / 2) x in
    record {
      going = going;
      decoder = decoder;
      sequence = sequence;
      opened = λ id is kept.
          let was_open : is_open s id ≡ true = rw (sym count) is in
          let at : stream_at new id ≡ get_or (set s.streams (i / 2) x) (id / 2) fresh = ap (λ (ys : List Stream). get_or ys (id / 2) fresh) streams in
          let was_kept : (stream_at s id).client_reset ≡ false = sym (reset_after s i id x is_there was_open given_up) ∙ (ap (λ (y : Stream). y.client_reset) (sym at) ∙ kept) in
          let done : (stream_at new id).server_done ≡ ((stream_at s id).server_done || (is_on id e && ends_stream e)) = ap (λ (y : Stream). y.server_done) at ∙ done_after s i id x (is_on id e) (ends_stream e) is_there was_open (on.on id) over in
          same_came id _ _ (t.events ++ e ∷ []) u.events events (same_told id _ ((h ++ events_of s.events) ++ e ∷ []) _ _ more (same_done id _ _ _ _ done (same_event id _ _ _ e (hear.opened id was_open was_kept))));
      unopened = λ id is.
          let was : is_open s id ≡ false = rw (sym count) is in
          let done : false ≡ (false || (is_on id e && ends_stream e)) = sym (no_end _ _ (on.on id ∙ not_same s i id is_there was)) in
          same_came id _ _ (t.events ++ e ∷ []) u.events events (same_told id _ ((h ++ events_of s.events) ++ e ∷ []) _ _ more (same_done id _ _ _ _ done (same_event id _ _ _ e (hear.unopened id was))));
      silent = λ id is.
          let was : is_open s id ≡ false = rw (sym count) is in
          ap (filter (is_on id)) more ∙ silent_more id (h ++ events_of s.events) e (on.on id ∙ not_same s i id is_there was) (hear.silent id was);
    }

-- an event of no stream
pub hearing_other : (h : List Event) (s new : Session) (t u : Incoming) (e : Event) → Hearing h s t → ((id : ℕ) → is_on id e ≡ false) → new.streams ≡ s.streams → events_of new.events ≡ events_of s.events ++ e ∷ [] → u.broken ≡ false → u.decoder ≡ new.decoder → u.sequence ≡ new.sequence → u.events ≡ t.events ++ e ∷ [] → Hearing h new u
hearing_other h s new t u e hear on streams told going decoder sequence events =
    let more : h ++ events_of new.events ≡ (h ++ events_of s.events) ++ e ∷ [] = ap (λ (y : List Event). h ++ y) told ∙ sym (append_assoc h (events_of s.events) (e ∷ [])) in
    let count : length new.streams ≡ length s.streams = ap length streams in
    let at : (id : ℕ) → stream_at new id ≡ stream_at s id = λ id. ap (λ (ys : List Stream). get_or ys (id / 2) fresh) streams in
    record {
      going = going;
      decoder = decoder;
      sequence = sequence;
      opened = λ id is kept.
          let was_open : is_open s id ≡ true = rw (sym count) is in
          let was_kept : (stream_at s id).client_reset ≡ false = ap (λ (y : Stream). y.client_reset) (sym (at id)) ∙ kept in
          let none = on id in
          let done : (stream_at new id).server_done ≡ ((stream_at s id).server_done || (is_on id e && ends_stream e)) = ap (λ (y : Stream). y.server_done) (at id) ∙ (sym (or-false _) ∙ rw none refl) in
          same_came id _ _ (t.events ++ e ∷ []) u.events events (same_told id _ ((h ++ events_of s.events) ++ e ∷ []) _ _ more (same_done id _ _ _ _ done (same_event id _ _ _ e (hear.opened id was_open was_kept))));
      unopened = λ id is.
          let was : is_open s id ≡ false = rw (sym count) is in
          let done : false ≡ (false || (is_on id e && ends_stream e)) = sym (no_end _ _ (on id)) in
          same_came id _ _ (t.events ++ e ∷ []) u.events events (same_told id _ ((h ++ events_of s.events) ++ e ∷ []) _ _ more (same_done id _ _ _ _ done (same_event id _ _ _ e (hear.unopened id was))));
      silent = λ id is.
          let was : is_open s id ≡ false = rw (sym count) is in
          ap (filter (is_on id)) more ∙ silent_more id (h ++ events_of s.events) e (on id) (hear.silent id was);
    }
