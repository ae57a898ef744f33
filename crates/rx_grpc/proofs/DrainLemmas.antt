-- Events handed out one after another.
use Rattle.std.proofs.Common.{◌≡◌, ◌<◌, ℕ, Bool, true, ◌||◌, ◌&&◌, not, List, [], ◌∷◌, ◌++◌, length, filter, refl, sym, ap, subst, ◌∙◌, arith, Option, None, Some}
use Rattle.std.proofs.lemmas.List.Elements.{filter-append}
use Rattle.std.proofs.Math.Bool.{or_assoc, or-false}
use Rattle.std.specs.List.{list_all, list_any}
use Rattle.rx_h2conn.specs.Session.{Session, Reading, Event, Queued}
use Rattle.rx_h2conn.specs.Streams.{KeepsHeld, is_open, stream_at}
use Rattle.rx_h2conn.specs.Data.{owe}
use Rattle.rx_h2conn.specs.Steps.{first, handed, after_event}
use Rattle.rx_h2conn.specs.Heard.{as_list}
use Rattle.rx_h2conn.proofs.ListLemmas.{either}
use Rattle.rx_h2conn.proofs.PieceLemmas.{handed-fault}
use Rattle.rx_grpc.specs.declared.call.Call.{Call}
use Rattle.rx_grpc.specs.Heard.{Heard, heard}
use Rattle.rx_grpc.specs.Moves.{Moves, is_for, is_away, is_quiet}
use Rattle.rx_grpc.specs.Conversation.{Drains}
use Rattle.rx_grpc.proofs.UseLemmas.{heard_append}
use Rattle.rx_grpc.proofs.MoveLemmas.{moves_none, moves_trans, moves_handed, quiet_both}

pub any_append : (P : Event → Bool) (xs ys : List Event) → list_any P (xs ++ ys) ≡ (list_any P xs || list_any P ys)
any_append P [] ys = refl
any_append P (x ∷ xs) ys = ap (λ (b : Bool). P x || b) (any_append P xs ys) ∙ sym (or_assoc (P x) (list_any P xs) (list_any P ys))

pub drains_none : (old : Reading) (call : Call) → Drains old old call call
unfolding moves_none
drains_none old call = record { out = []; moves = moves_none old; quiet = refl; id = refl; place = refl; heard_is = refl; away_is = sym (or-false call.away); fault = refl; held = λ i over h. h }

pub owe-events : (s : Session) (id credit : ℕ) → (owe s id credit).events ≡ s.events
unfolding owe
owe-events s id credit = either (λ (x : Session). x.events ≡ s.events) (is_open s id && not (stream_at s id).client_reset) _ _ (λ _. refl) (λ _. refl)

pub fewer : (s : Session) (qs : List Queued) (e : Event) → s.events ≡ qs → first qs ≡ Some e → length (handed s qs).events < length qs
fewer s [] e is some = absurd cc
fewer s (q ∷ qs) e is some = let same = ap (λ (x : List Queued). length x) (owe-events (record s { events = qs }) q.stream q.credit) in omega (arith, same)

pub drained_less : (now new : Reading) (e : Event) → first now.state.events ≡ Some e → new ≡ after_event now → length new.state.events < length now.state.events
drained_less now new e some is = subst (λ (x : Reading). length x.state.events < length now.state.events) (sym is) (fewer now.state now.state.events e refl some)

-- one event more
pub hands_by : (now new : Reading) (o : Option Event) (e : Event) → o ≡ Some e → (m : Moves now new [] [] (as_list o)) → list_all is_quiet m.calls ≡ true → (n : Moves now new [] [] (e ∷ [])) × (list_all is_quiet n.calls ≡ true)
hands_by now new (Some x) e is m quiet = let same : x ≡ e = cc in subst (λ (y : Event). (n : Moves now new [] [] (y ∷ [])) × (list_all is_quiet n.calls ≡ true)) same (m, quiet)
hands_by now new None e is m quiet = absurd cc

pub hands_one : (now new : Reading) (e : Event) → first now.state.events ≡ Some e → new ≡ after_event now → (n : Moves now new [] [] (e ∷ [])) × (list_all is_quiet n.calls ≡ true)
unfolding moves_handed
hands_one now new e some is = hands_by now new (first now.state.events) e some (moves_handed now new is) refl

pub drains_next : (old now new : Reading) (a b d : Call) (e : Event) → Drains old now a b → first now.state.events ≡ Some e → new ≡ after_event now → KeepsHeld now.state new.state → d.id ≡ b.id → d.place ≡ b.place → d.answers ≡ heard b.answers (filter (is_for b.id) (e ∷ [])) → d.away ≡ (b.away || is_away e) → Drains old new a d
unfolding moves_trans
drains_next old now new a b d e is some after_is held id place heard_is away_is =
    let step = hands_one now new e some after_is in
    record {
      out = is.out ++ e ∷ [];
      moves = moves_trans old now new [] [] [] [] is.out (e ∷ []) is.moves step.0;
      quiet = quiet_both is.moves.calls step.0.calls is.quiet step.1;
      id = id ∙ is.id;
      place = place ∙ is.place;
      heard_is =
          heard_is ∙ (ap (λ (i : ℕ). heard b.answers (filter (is_for i) (e ∷ []))) is.id
          ∙ (ap (λ (x : Heard). heard x (filter (is_for a.id) (e ∷ []))) is.heard_is
          ∙ (sym (heard_append a.answers (filter (is_for a.id) is.out) (filter (is_for a.id) (e ∷ [])))
          ∙ ap (heard a.answers) (sym (filter-append (is_for a.id) is.out (e ∷ []))))));
      away_is =
          away_is ∙ (ap (λ (w : Bool). w || is_away e) is.away_is
          ∙ (or_assoc a.away (list_any is_away is.out) (is_away e)
          ∙ ap (λ (w : Bool). a.away || w) (ap (λ (w : Bool). list_any is_away is.out || w) (sym (or-false (is_away e))) ∙ sym (any_append is_away is.out (e ∷ [])))));
      fault = ap (λ (x : Reading). x.state.fault) after_is ∙ (handed-fault now.state now.state.events ∙ is.fault);
      held = λ i over h. held i over (is.held i over h);
    }

pub none_left : (qs : List Queued) → first qs ≡ None → qs ≡ []
none_left [] e = refl
none_left (q ∷ qs) e = absurd cc

-- no event is left
pub drains_all : (old now new : Reading) (a b : Call) → Drains old now a b → first now.state.events ≡ None → new ≡ after_event now → Drains old new a b × (new.state.events ≡ [])
drains_all old now new a b is none after_is =
    let nothing = none_left now.state.events none in
    let same : after_event now ≡ now = ap (λ (qs : List Queued). record now { state = handed now.state qs }) nothing in
    let new_is : new ≡ now = after_is ∙ same in
    (subst (λ (x : Reading). Drains old x a b) (sym new_is) is, ap (λ (x : Reading). x.state.events) new_is ∙ nothing)
