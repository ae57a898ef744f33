-- The part of a stream grows event by event.
use Rattle.std.proofs.Common.{◌≡◌, ℕ, Bool, true, false, cond, not, ◌&&◌, ◌||◌, List, [], ◌∷◌, ◌++◌, append-nil, filter, refl, sym, ap, ◌∙◌, nat_eq}
use Rattle.std.proofs.lemmas.List.Elements.{filter-append}
use Rattle.rx_h2conn.specs.Session.{Event}
use Rattle.rx_h2conn.specs.Part.{Part, is_on, ends_stream, leaves_out, with_event, part_from, part}

pub part_append : (p : Part) (id : ℕ) (xs ys : List Event) → part_from p id (xs ++ ys) ≡ part_from (part_from p id xs) id ys
part_append p id [] ys = refl
part_append p id (x ∷ xs) ys = part_append (with_event p id x) id xs ys

-- the part with an event more, over variables
abbrev pub grown : List Event → Event → Bool → Bool → Bool → Bool → Bool → Part
grown es e done gone on ends out = record {
  events = es ++ cond ((on && not done) || (out && not gone)) (e ∷ []) [];
  done = done || (on && ends);
  gone = gone || out;
}

pub grown_none : (es : List Event) (e : Event) (done gone on ends : Bool) → (on && not done) ≡ false → grown es e done gone on ends false ≡ record { events = es; done = done; gone = gone }
grown_none es e true true true ends h = ap (λ (x : List Event). record { events = x; done = true; gone = true }) (append-nil es)
grown_none es e true false true ends h = ap (λ (x : List Event). record { events = x; done = true; gone = false }) (append-nil es)
grown_none es e true true false ends h = ap (λ (x : List Event). record { events = x; done = true; gone = true }) (append-nil es)
grown_none es e true false false ends h = ap (λ (x : List Event). record { events = x; done = true; gone = false }) (append-nil es)
grown_none es e false gone true ends h = absurd cc
grown_none es e false true false ends h = ap (λ (x : List Event). record { events = x; done = false; gone = true }) (append-nil es)
grown_none es e false false false ends h = ap (λ (x : List Event). record { events = x; done = false; gone = false }) (append-nil es)

-- an event that is of another stream, or comes after the end of this one
pub dropped : (p : Part) (id : ℕ) (e : Event) → leaves_out id e ≡ false → (is_on id e && not p.done) ≡ false → with_event p id e ≡ p
dropped p id e out h =
    ap (λ (x : Bool). grown p.events e p.done p.gone (is_on id e) (ends_stream e) x) out
    ∙ grown_none p.events e p.done p.gone (is_on id e) (ends_stream e) h

-- the part of what was told is that of what came
pub record SameAt (id : ℕ) (done : Bool) (told events : List Event) : Type 0 where
  pub same : part id told ≡ part id events
  pub ended : (part id told).done ≡ done

pub same_event : (id : ℕ) (done : Bool) (told events : List Event) (e : Event) → SameAt id done told events → SameAt id (done || (is_on id e && ends_stream e)) (told ++ e ∷ []) (events ++ e ∷ [])
same_event id done told events e s = record {
  same =
      part_append _ id told (e ∷ [])
      ∙ (ap (λ (x : Part). with_event x id e) s.same
      ∙ sym (part_append _ id events (e ∷ [])));
  ended =
      ap (λ (x : Part). x.done) (part_append _ id told (e ∷ []))
      ∙ ap (λ (x : Bool). x || (is_on id e && ends_stream e)) s.ended;
}

pub same_dropped : (id : ℕ) (done : Bool) (told events : List Event) (e : Event) → SameAt id done told events → leaves_out id e ≡ false → (is_on id e && not done) ≡ false → SameAt id done told (events ++ e ∷ [])
same_dropped id done told events e s out h =
    let over : (part id events).done ≡ done = ap (λ (x : Part). x.done) (sym s.same) ∙ s.ended in
    record {
      same = s.same ∙ sym (part_append _ id events (e ∷ []) ∙ dropped (part id events) id e out (rw over h));
      ended = s.ended;
    }

pub same_told : (id : ℕ) (done : Bool) (told again events : List Event) → again ≡ told → SameAt id done told events → SameAt id done again events
same_told id done told again events e s = rw e s

pub same_came : (id : ℕ) (done : Bool) (told events again : List Event) → again ≡ events → SameAt id done told events → SameAt id done told again
same_came id done told events again e s = rw e s

pub same_done : (id : ℕ) (done over : Bool) (told events : List Event) → over ≡ done → SameAt id done told events → SameAt id over told events
same_done id done over told events e s = rw e s

-- an event of a stream
pub record OnStream (i : ℕ) (e : Event) : Type 0 where
  pub on : (id : ℕ) → is_on id e ≡ nat_eq i id
  pub out : (id : ℕ) → leaves_out id e ≡ false

-- one event more that is of another stream
pub silent_more : (id : ℕ) (told : List Event) (e : Event) → is_on id e ≡ false → filter (is_on id) told ≡ [] → filter (is_on id) (told ++ e ∷ []) ≡ []
silent_more id told e off silent =
    filter-append (is_on id) told (e ∷ [])
    ∙ (ap (λ (x : List Event). x ++ filter (is_on id) (e ∷ [])) silent ∙ ap (λ (b : Bool). cond b (e ∷ []) []) off)
