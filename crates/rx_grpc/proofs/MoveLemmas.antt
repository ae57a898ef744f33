-- Calls one after another, and what each of them moves.
use Rattle.std.proofs.Common.{◌≡◌, ◌≤◌, ℕ, ◌+◌, ◌-◌, true, List, [], ◌∷◌, ◌++◌, length, map, take, append-nil, append_assoc, refl, sym, ap, subst, ◌∙◌, arith, Option, None, Some, Ok, Err}
use Rattle.std.specs.List.{list_all}
use Rattle.std.proofs.lemmas.List.Folds.{list_all-append}
use Rattle.rx_h2conn.specs.declared.stream.Stream.{Stream}
use Rattle.rx_h2conn.specs.Session.{Session, Reading, Event}
use Rattle.rx_h2conn.specs.Credit.{connection_due}
use Rattle.rx_h2conn.specs.Output.{output, emptied, told}
use Rattle.rx_h2conn.specs.declared.fault.ConnFault.{ConnFault}
use Rattle.rx_h2conn.specs.declared.fault.ConnFault.TheVariants.{Protocol, GoneAway, StreamsSpent, NoMemory}
use Rattle.rx_h2conn.specs.Steps.{FeedsAt, fed, first, after_event}
use Rattle.rx_h2conn.specs.History.{Call, Feeds, Hands, Takes, after, run, all_given, given}
use Rattle.rx_h2conn.specs.Granted.{AllSendHeld}
use Rattle.rx_h2conn.specs.Heard.{all_fed, fed_by, all_handed, handed_by, as_list}
use Rattle.rx_h2conn.proofs.ConnLemmas.{connection_told}
use Rattle.rx_h2conn.proofs.DueLemmas.{told_twice}
use Rattle.rx_h2conn.proofs.RestoreLemmas.{run_append}
use Rattle.rx_world.specs.Links.{Wire, Goes}
use Rattle.rx_grpc.specs.Moves.{IsDrained, IsPaced, Moves, Exchange, carried, is_quiet}
use Rattle.rx_grpc.proofs.WireLemmas.{goes_received}

pub given_append : (r : Reading) (a b : List Call) → all_given r (a ++ b) ≡ all_given r a ++ all_given (run r a) b
given_append r [] b = refl
given_append r (c ∷ a) b = ap (λ (x : List ℕ). given r c ++ x) (given_append (after r c) a b) ∙ sym (append_assoc (given r c) (all_given (after r c) a) _)

pub fed_in_append : (a b : List Call) → all_fed (a ++ b) ≡ all_fed a ++ all_fed b
fed_in_append [] b = refl
fed_in_append (c ∷ a) b = ap (λ (x : List ℕ). fed_by c ++ x) (fed_in_append a b) ∙ sym (append_assoc (fed_by c) (all_fed a) _)

pub handed_append : (r : Reading) (a b : List Call) → all_handed r (a ++ b) ≡ all_handed r a ++ all_handed (run r a) b
handed_append r [] b = refl
handed_append r (c ∷ a) b = ap (λ (x : List Event). handed_by r c ++ x) (handed_append (after r c) a b) ∙ sym (append_assoc (handed_by r c) (all_handed (after r c) a) _)

pub paced_append : (r : Reading) (a b : List Call) → IsPaced r a → IsPaced (run r a) b → IsPaced r (a ++ b)
paced_append r [] b p q = q
paced_append r (c ∷ a) b p q = (p.0, paced_append (after r c) a b p.1 q)

pub held_append : (r : Reading) (a b : List Call) → AllSendHeld r a → AllSendHeld (run r a) b → AllSendHeld r (a ++ b)
held_append r [] b p q = q
held_append r (c ∷ a) b p q = (p.0, held_append (after r c) a b p.1 q)

-- calls that send nothing of a request
pub quiet_both : (a b : List Call) → list_all is_quiet a ≡ true → list_all is_quiet b ≡ true → list_all is_quiet (a ++ b) ≡ true
quiet_both a b p q = list_all-append is_quiet a b ∙ rw (p, q) refl

unfoldable pub moves_none : (r : Reading) → Moves r r [] [] []
moves_none r = record { calls = []; run_is = refl; given_is = refl; fed_is = refl; handed_is = refl; paced = tt; sends = tt }

unfoldable pub moves_trans : (a b c : Reading) (g f g2 f2 : List ℕ) (h h2 : List Event) → Moves a b g f h → Moves b c g2 f2 h2 → Moves a c (g ++ g2) (f ++ f2) (h ++ h2)
moves_trans a b c g f g2 f2 h h2 p q = record {
  calls = p.calls ++ q.calls;
  run_is = run_append a p.calls q.calls ∙ (ap (λ (x : Reading). run x q.calls) p.run_is ∙ q.run_is);
  given_is = given_append a p.calls q.calls ∙ (ap (λ (x : Reading). all_given a p.calls ++ all_given x q.calls) p.run_is ∙ (ap (λ (x : List ℕ). x ++ all_given b q.calls) p.given_is ∙ ap (λ (x : List ℕ). g ++ x) q.given_is));
  fed_is = fed_in_append p.calls q.calls ∙ (ap (λ (x : List ℕ). x ++ all_fed q.calls) p.fed_is ∙ ap (λ (x : List ℕ). f ++ x) q.fed_is);
  handed_is = handed_append a p.calls q.calls ∙ (ap (λ (x : Reading). all_handed a p.calls ++ all_handed x q.calls) p.run_is ∙ (ap (λ (x : List Event). x ++ all_handed b q.calls) p.handed_is ∙ ap (λ (x : List Event). h ++ x) q.handed_is));
  paced = paced_append a p.calls q.calls p.paced (subst (λ (x : Reading). IsPaced x q.calls) (sym p.run_is) q.paced);
  sends = held_append a p.calls q.calls p.sends (subst (λ (x : Reading). AllSendHeld x q.calls) (sym p.run_is) q.sends);
}

-- one call each
unfoldable pub moves_fed : (old new : Reading) (piece : List ℕ) → length piece ≤ 8192 → IsDrained old.state → new ≡ fed old piece → Moves old new [] piece []
moves_fed old new piece few drained is = record { calls = Feeds piece ∷ []; run_is = sym is; given_is = refl; fed_is = append-nil piece; handed_is = refl; paced = ((few, drained), tt); sends = (tt, tt) }

unfoldable pub moves_taken : (old new : Reading) → new.state ≡ emptied old.state → new.rest ≡ old.rest → Moves old new (output old.state) [] []
moves_taken old new state rest = record {
  calls = Takes ∷ [];
  run_is = ap (λ (x : Session). record { state = x; rest = old.rest }) (sym state) ∙ ap (λ (x : List ℕ). record { state = new.state; rest = x }) (sym rest);
  given_is = append-nil (output old.state);
  fed_is = refl;
  handed_is = refl;
  paced = (tt, tt);
  sends = (tt, tt);
}

unfoldable pub moves_handed : (old new : Reading) → new ≡ after_event old → Moves old new [] [] (as_list (first old.state.events))
moves_handed old new is = record { calls = Hands ∷ []; run_is = sym is; given_is = refl; fed_is = refl; handed_is = append-nil (as_list (first old.state.events)); paced = (tt, tt); sends = (tt, tt) }

-- once the output was taken, taking it again changes nothing
pub told_again : (ts : List Stream) → map told (map told ts) ≡ map told ts
told_again [] = refl
told_again (t ∷ ts) = ap (λ (x : Stream). x ∷ map told (map told ts)) (told_twice t) ∙ ap (λ (x : List Stream). told t ∷ x) (told_again ts)

pub emptied_again : (s : Session) → emptied (emptied s) ≡ emptied s
emptied_again s =
    let none = connection_told s in
    let due = connection_due (emptied s) in
    let same : (emptied s).receive + due ≡ (emptied s).receive = omega (arith, none) in
    let left : (emptied s).owed - due ≡ (emptied s).owed = omega (arith, none) in
    ap (λ (n : ℕ). record (emptied s) { receive = n; owed = (emptied s).owed - due; streams = map told (map told s.streams) }) same
    ∙ ap (λ (n : ℕ). record (emptied s) { owed = n; streams = map told (map told s.streams) }) left
    ∙ ap (λ (x : List Stream). record (emptied s) { streams = x }) (told_again s.streams)

pub drained_flushed : (old new : Session) → new ≡ emptied old → old.events ≡ [] → IsDrained new
drained_flushed old new is none = rw is (record { events = none; output = emptied_again old })

-- what was queued is sent
pub exchange_flushed : (w n : Option Wire) (c d : Reading) (bytes : List ℕ) → bytes ≡ output c.state → d.state ≡ emptied c.state → d.rest ≡ c.rest → Goes w n (carried bytes []) → Exchange w n c d 0 0
unfolding moves_taken
exchange_flushed w n c d bytes is state rest g = record { given = output c.state; fed = []; moves = moves_taken c d state rest; quiet = refl; carries = subst (λ (x : List ℕ). Goes w n (carried x [])) is g; count = refl }

-- what came over the link is fed
pub exchange_fed : (w n : Option Wire) (c d : Reading) (piece bytes : List ℕ) (count room left : ℕ) → Goes w n (λ w. record w { received = w.received ++ take count bytes }) → piece ≡ take count bytes → length piece ≤ 8192 → length piece + left ≡ room → IsDrained c.state → d ≡ fed c piece → Exchange w n c d room left
unfolding moves_fed
exchange_fed w n c d piece bytes count room left g cut few less drained is = record {
  given = [];
  fed = piece;
  moves = moves_fed c d piece few drained is;
  quiet = refl;
  carries = subst (λ (x : List ℕ). Goes w n (carried [] x)) (sym cut) (goes_received w n bytes count g);
  count = less;
}

pub exchange_none : (w n : Option Wire) (c : Reading) (bytes : List ℕ) (count room : ℕ) → count ≡ 0 → Goes w n (λ w. record w { received = w.received ++ take count bytes }) → Exchange w n c c room room
unfolding moves_none
exchange_none w n c bytes count room zero g = record { given = []; fed = []; moves = moves_none c; quiet = refl; carries = subst (λ (k : ℕ). Goes w n (carried [] (take k bytes))) zero (goes_received w n bytes count g); count = omega arith }

-- what a piece that was fed leaves
pub feeds_ok : (o : Option ConnFault) (old new : Reading) (p : List ℕ) (u : Unit {0}) → FeedsAt o old p new (Ok u) → new ≡ fed old p
feeds_ok None old new p u d = d.0
feeds_ok (Some e) old new p u d = let no = d.1 in absurd cc

pub feeds_broken : (o : Option ConnFault) (old new : Reading) (p : List ℕ) (e : ConnFault) (code : ℕ) → e ≡ Protocol code → o ≡ None → FeedsAt o old p new (Err e) → new ≡ fed old p
feeds_broken (Some x) old new p e code is none d = absurd cc
feeds_broken None old new p (Protocol n) code is none d = d.0
feeds_broken None old new p (GoneAway n) code is none d = absurd cc
feeds_broken None old new p StreamsSpent code is none d = absurd cc
feeds_broken None old new p NoMemory code is none d = absurd cc
