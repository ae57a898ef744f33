-- What was handed out changes nothing of what follows, and nothing follows an end.
use Rattle.std.proofs.Common.{◌≡◌, ℕ, Bool, true, false, List, [], ◌∷◌, ◌++◌, take, refl, sym, ap, ◌∙◌, append_assoc, Option, None, Some}
use Rattle.std.proofs.lemmas.List.{take-append-drop}
use Rattle.rx_grpc.specs.declared.end.End.{End}
use Rattle.rx_grpc.specs.declared.end.End.TheVariants.{Status, Compressed, TooLarge, NoStatus}
use Rattle.rx_grpc.specs.declared.head.Head.{Head}
use Rattle.rx_grpc.specs.declared.head.Head.TheVariants.{Waiting, Success, Failure}
use Rattle.rx_hpack.specs.Header.{Field}
use Rattle.rx_h2conn.specs.Incoming.{nothing as no_bytes}
use Rattle.rx_h2conn.proofs.GrowLemmas.{part_later}
use Rattle.rx_h2conn.specs.Session.{Event, Headers, Bytes, Reset, Gone}
use Rattle.rx_grpc.specs.Texts.{is_interim}
use Rattle.rx_grpc.specs.Framing.{Next, Whole, Lacks, IsCompressed, IsTooLarge, next_message}
use Rattle.rx_grpc.specs.Heard.{Heard, unless_ended, judged, settled, more, byte, read, read_by, closed, closed_if, end_by, listed, told, step, heard}
use Rattle.rx_grpc.specs.declared.answer.Answer.{Answer}
use Rattle.rx_grpc.specs.Answer.{unary, unary_by}
use Rattle.rx_grpc.specs.Uses.{Use, Adds, Nexts, after, run, all_given, added, front, IsOfEvents, ShownStays, events_at, FrontShows}

pub front_unless : (f : List (List ℕ)) (o : Option End) (h n m : Heard) → m ≡ front f n → unless_ended o (front f h) m ≡ front f (unless_ended o h n)
front_unless f None h n m e = e
front_unless f (Some x) h n m e = refl

pub front_judged : (f : List (List ℕ)) (h : Heard) (n : Next) → judged (front f h) n ≡ front f (judged h n)
front_judged f h (Whole m) = ap (λ (x : List (List ℕ)). record h { messages = x; rest = [] }) (append_assoc f h.messages (m ∷ []))
front_judged f h (Lacks n) = refl
front_judged f h IsCompressed = refl
front_judged f h IsTooLarge = refl

pub front_byte : (f : List (List ℕ)) (h : Heard) (b : ℕ) → byte (front f h) b ≡ front f (byte h b)
unfolding byte settled
front_byte f h b = front_unless f h.end h (judged (more h (b ∷ [])) (next_message (h.rest ++ b ∷ []))) _ (front_judged f (more h (b ∷ [])) (next_message (h.rest ++ b ∷ [])))

pub front_read : (f : List (List ℕ)) (h : Heard) (p : List ℕ) → read (front f h) p ≡ front f (read h p)
front_read f h [] = refl
front_read f h (b ∷ p) = ap (λ (x : Heard). read x p) (front_byte f h b) ∙ front_read f (byte h b) p

pub front_read_by : (f : List (List ℕ)) (head : Head) (h : Heard) (p : List ℕ) → read_by head (front f h) p ≡ front f (read_by head h p)
front_read_by f Success h p = front_read f h p
front_read_by f Waiting h p = refl
front_read_by f (Failure code) h p = refl

pub front_closed : (f : List (List ℕ)) (last : Bool) (h m : Heard) → m ≡ front f h → closed_if last m ≡ front f (closed_if last h)
front_closed f true h m e = ap closed e ∙ front_unless f h.end h (record h { end = Some (end_by h.head) }) _ refl
front_closed f false h m e = e

pub front_listed : (f : List (List ℕ)) (h : Heard) (list : List Field) (last interim : Bool) → is_interim list ≡ interim → listed (front f h) list last ≡ front f (listed h list last)
front_listed f h list true interim e = refl
front_listed f h list false true e = rw e refl
front_listed f h list false false e = rw e refl

pub front_told : (f : List (List ℕ)) (h : Heard) (event : Event) → told (front f h) event ≡ front f (told h event)
front_told f h (Headers stream list last) = front_listed f h list last (is_interim list) refl
front_told f h (Bytes stream bytes last) = front_closed f last (read_by h.head h bytes) _ (front_read_by f h.head h bytes)
front_told f h (Reset stream code) = refl
front_told f h (Gone last) = refl

pub front_step : (f : List (List ℕ)) (h : Heard) (event : Event) → step (front f h) event ≡ front f (step h event)
unfolding step
front_step f h event = front_unless f h.end h (told h event) _ (front_told f h event)

pub front_heard : (f : List (List ℕ)) (h : Heard) (events : List Event) → heard (front f h) events ≡ front f (heard h events)
front_heard f h [] = refl
front_heard f h (event ∷ events) = ap (λ (x : Heard). heard x events) (front_step f h event) ∙ front_heard f (step h event) events

pub of_events : (h : Heard) (uses : List Use) → IsOfEvents h uses
of_events h [] = refl
of_events h (Adds event ∷ uses) = of_events (step h event) uses
of_events h (Nexts ∷ uses) =
    let rest = after h Nexts in
    let all : front (take 1 h.messages) rest ≡ h = ap (λ (x : List (List ℕ)). record h { messages = x }) (take-append-drop 1 h.messages) in
    ap (λ (x : List (List ℕ)). record (run rest uses) { messages = x }) (append_assoc (take 1 h.messages) (all_given rest uses) (run rest uses).messages)
    ∙ (ap (front (take 1 h.messages)) (of_events rest uses)
    ∙ (sym (front_heard (take 1 h.messages) rest (added uses))
    ∙ ap (λ (x : Heard). heard x (added uses)) all))

-- nothing follows an end
pub step_ended : (h : Heard) (e : End) (event : Event) → h.end ≡ Some e → step h event ≡ h
unfolding step
step_ended h e event is = rw is refl

pub heard_ended : (h : Heard) (e : End) (events : List Event) → h.end ≡ Some e → heard h events ≡ h
heard_ended h e [] is = refl
heard_ended h e (event ∷ events) is = rw (step_ended h e event is) (heard_ended h e events is)

pub heard_append : (h : Heard) (a b : List Event) → heard h (a ++ b) ≡ heard (heard h a) b
heard_append h [] b = refl
heard_append h (event ∷ a) b = heard_append (step h event) a b

pub unary_ended : (o : Option End) (h : Heard) (x : Answer) (ended : Bool) → unary_by o false h ≡ Some x → (unary_by o ended h ≡ Some x) × ((o ≡ None) → ⊥)
unary_ended None h x ended e = absurd cc
unary_ended (Some (Status code)) h x ended e = (e, λ n. cc)
unary_ended (Some Compressed) h x ended e = (e, λ n. cc)
unary_ended (Some TooLarge) h x ended e = (e, λ n. cc)
unary_ended (Some NoStatus) h x ended e = (e, λ n. cc)

pub heard_stopped : (h : Heard) (events : List Event) → (h.end ≡ None → ⊥) → heard h events ≡ h
heard_stopped h events not =
    elim h.end as (λ o. h.end ≡ o → heard h events ≡ h) [
      | None ↦ λ is. absurd (not is)
      | Some e ↦ λ is. heard_ended h e events is
    ] refl

pub unary_stays : (h : Heard) (a b : List Event) → ShownStays unary h a b
unary_stays h a b ended x e =
    let shown = unary_ended (heard h a).end (heard h a) x ended e in
    let same : heard h (a ++ b) ≡ heard h a = heard_append h a b ∙ heard_stopped (heard h a) b shown.1 in
    ap (unary ended) same ∙ shown.0

-- what is shown of some events is shown of the bytes that show these first
pub front_shows : {A : Type 0} (look : Bool → Heard → Option A) (h : Heard) (id : ℕ) (front more : List ℕ) → ((a b : List Event) → ShownStays look h a b) → FrontShows look h id front more
front_shows look h id front more stays ended x e =
    let (later, is) = part_later id no_bytes front more in
    ap (λ (events : List Event). look ended (heard h events)) is ∙ stays (events_at id front) later ended x e
