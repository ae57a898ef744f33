-- The events of a stream among all that were handed out show what its part shows.
use Rattle.std.proofs.Common.{◌≡◌, ℕ, Bool, true, false, cond, not, ◌&&◌, ◌||◌, List, [], ◌∷◌, ◌++◌, append-nil, filter, refl, sym, ap, ◌∙◌, Option, None, Some}
use Rattle.std.proofs.lemmas.Bool.{and_parts, or_left, or_right}
use Rattle.rx_h2conn.specs.Session.{Event, Headers, Bytes, Reset, Gone}
use Rattle.rx_grpc.specs.declared.end.End.{End}
use Rattle.rx_grpc.specs.Heard.{Heard, unless_ended, ended_by, end_by, read_by, told, step, heard}
use Rattle.rx_grpc.proofs.UseLemmas.{heard_append, heard_stopped}
use Rattle.rx_h2conn.specs.Part.{Part, is_on, ends_stream, leaves_out, with_event, part_from}
use Rattle.rx_grpc.specs.Moves.{is_for}

abbrev pub IsEnded : Heard → Type 0
IsEnded h = h.end ≡ None → ⊥

pub closed_ended : (o : Option End) (h : Heard) → h.end ≡ o → IsEnded (unless_ended o h (ended_by h (end_by h.head)))
closed_ended None h is = λ bad. cc
closed_ended (Some e) h is = λ bad. let no : Some e ≡ None = sym is ∙ bad in cc

pub told_ends : (h : Heard) (e : Event) → ends_stream e ≡ true → IsEnded (told h e)
told_ends h (Headers stream list true) ends = λ bad. cc
told_ends h (Headers stream list false) ends = absurd cc
told_ends h (Bytes stream bytes true) ends = closed_ended (read_by h.head h bytes).end (read_by h.head h bytes) refl
told_ends h (Bytes stream bytes false) ends = absurd cc
told_ends h (Reset stream code) ends = λ bad. cc
told_ends h (Gone last) ends = absurd cc

pub told_gone : (h : Heard) (id : ℕ) (e : Event) → leaves_out id e ≡ true → IsEnded (told h e)
told_gone h id (Headers stream list last) out = absurd cc
told_gone h id (Bytes stream bytes last) out = absurd cc
told_gone h id (Reset stream code) out = absurd cc
told_gone h id (Gone last) out = λ bad. cc

pub step_stopped : (h : Heard) (e : Event) → IsEnded h → step h e ≡ h
step_stopped h e ended = heard_stopped h (e ∷ []) ended

pub step_open : (h : Heard) (e : Event) → h.end ≡ None → step h e ≡ told h e
unfolding step
step_open h e none = rw none refl

pub step_by : (h : Heard) (e : Event) → IsEnded (told h e) → IsEnded (step h e)
step_by h e ended =
    elim h.end as (λ o. h.end ≡ o → IsEnded (step h e)) [
      | None ↦ λ is. rw (step_open h e is) ended
      | Some x ↦ λ is. let stopped : IsEnded h = λ bad. let no : Some x ≡ None = sym is ∙ bad in cc in rw (step_stopped h e stopped) stopped
    ] refl

-- one event more of the part and of what is read
pub one_more : (on out done gone : Bool) (z : Heard) (events : List Event) (e : Event) → (done ≡ true → IsEnded (heard z events)) → (gone ≡ true → IsEnded (heard z events)) → cond (on || out) (step (heard z events) e) (heard z events) ≡ heard z (events ++ cond ((on && not done) || (out && not gone)) (e ∷ []) [])
one_more true out false gone z events e d g = sym (heard_append z events (e ∷ []))
one_more true true true false z events e d g = sym (heard_append z events (e ∷ []))
one_more true true true true z events e d g = step_stopped _ e (d refl) ∙ ap (heard z) (sym (append-nil events))
one_more true false true gone z events e d g = step_stopped _ e (d refl) ∙ ap (heard z) (sym (append-nil events))
one_more false true true false z events e d g = sym (heard_append z events (e ∷ []))
one_more false true false false z events e d g = sym (heard_append z events (e ∷ []))
one_more false true true true z events e d g = step_stopped _ e (g refl) ∙ ap (heard z) (sym (append-nil events))
one_more false true false true z events e d g = step_stopped _ e (g refl) ∙ ap (heard z) (sym (append-nil events))
one_more false false true true z events e d g = ap (heard z) (sym (append-nil events))
one_more false false true false z events e d g = ap (heard z) (sym (append-nil events))
one_more false false false true z events e d g = ap (heard z) (sym (append-nil events))
one_more false false false false z events e d g = ap (heard z) (sym (append-nil events))

-- an end stays, and the last event of the stream is one
pub still_ended : (on out was now : Bool) (h : Heard) (e : Event) → (was ≡ true → IsEnded h) → (now ≡ true → IsEnded (step h e)) → (now ≡ true → (on || out) ≡ true) → (was || now) ≡ true → IsEnded (cond (on || out) (step h e) h)
still_ended true out true now h e w n o is = rw (step_stopped h e (w refl)) (w refl)
still_ended false true true now h e w n o is = rw (step_stopped h e (w refl)) (w refl)
still_ended false false true now h e w n o is = w refl
still_ended true out false true h e w n o is = n refl
still_ended false true false true h e w n o is = n refl
still_ended false false false true h e w n o is = let no = o refl in absurd cc
still_ended on out false false h e w n o is = absurd cc

pub chosen_step : (b : Bool) (h : Heard) (e : Event) (es : List Event) → heard h (cond b (e ∷ es) es) ≡ heard (cond b (step h e) h) es
chosen_step true h e es = refl
chosen_step false h e es = refl

pub reads_from : (events : List Event) (z : Heard) (p : Part) (id : ℕ) → (p.done ≡ true → IsEnded (heard z p.events)) → (p.gone ≡ true → IsEnded (heard z p.events)) → heard (heard z p.events) (filter (is_for id) events) ≡ heard z (part_from p id events).events
reads_from [] z p id d g = refl
reads_from (e ∷ events) z p id d g =
    let h = heard z p.events in
    let on = is_on id e in
    let out = leaves_out id e in
    let one = one_more on out p.done p.gone z p.events e d g in
    let ends : (p.done || (on && ends_stream e)) ≡ true → IsEnded (heard z (with_event p id e).events) = λ is.
    rw (sym one) (still_ended on out p.done (on && ends_stream e) h e d (λ now. step_by h e (told_ends h e (and_parts on _ now).1)) (λ now. or_left on out (and_parts on _ now).0) is) in
    let leaves : (p.gone || out) ≡ true → IsEnded (heard z (with_event p id e).events) = λ is.
    rw (sym one) (still_ended on out p.gone out h e g (λ now. step_by h e (told_gone h id e now)) (λ now. or_right on out now) is) in
    chosen_step (on || out) h e (filter (is_for id) events)
    ∙ (ap (λ (x : Heard). heard x (filter (is_for id) events)) one
    ∙ reads_from events z (with_event p id e) id ends leaves)
