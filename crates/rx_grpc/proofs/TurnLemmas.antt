-- One turn of a call.
use Rattle.std.proofs.Common.{◌≡◌, ℕ, Bool, true, false, ◌&&◌, not, List, [], ◌∷◌, ◌++◌, append-nil, filter, refl, sym, ap, subst, ◌∙◌, arith, Option, None, Some, Ok, is_none}
use Rattle.rx_h2conn.specs.declared.fault.ConnFault.{ConnFault}
use Rattle.rx_h2conn.specs.declared.fault.ConnFault.TheVariants.{NoMemory, Protocol}
use Rattle.rx_h2conn.specs.Session.{Session, Reading}
use Rattle.rx_h2conn.specs.Streams.{IsHeld, KeepsHeld}
use Rattle.rx_h2conn.specs.Output.{AnswersAt, sent}
use Rattle.rx_h2conn.specs.History.{Sends, unless}
use Rattle.rx_h2conn.proofs.ConnLemmas.{sent-fault}
use Rattle.rx_h2conn.proofs.ListLemmas.{and_true, not_true}
use Rattle.rx_world.specs.Links.{Wire, Meets}
use Rattle.rx_grpc.specs.declared.call.Call.{Call}
use Rattle.rx_grpc.specs.declared.open_call.OpenCall.{OpenCall}
use Rattle.rx_grpc.specs.declared.came.Came.{Came}
use Rattle.rx_grpc.specs.declared.came.Came.TheVariants.{End, Piece, Broken}
use Rattle.rx_grpc.specs.Heard.{Heard, heard, nothing}
use Rattle.rx_grpc.specs.Uses.{front}
use Rattle.rx_grpc.specs.Came.{CameBy, is_end, is_piece}
use Rattle.rx_grpc.specs.Moves.{Moves, Exchange, Carries, IsDrained, is_for}
use Rattle.rx_grpc.specs.Conversation.{CallHears, IsOpen, Drains, alive_of}
use Rattle.rx_grpc.specs.Shown.{Breaks, IsKept, IsOver}
use Rattle.rx_grpc.proofs.MoveLemmas.{moves_trans}
use Rattle.rx_grpc.proofs.ConversationLemmas.{hears_exchange, hears_moved, hears_drained}
use Rattle.rx_grpc.proofs.ShownLemmas.{IsHeardAt, shows_by, breaks_by}
use Rattle.rx_grpc.proofs.ItemLemmas.{IsLook}

-- a part of the request was taken
pub unless_none : (o : Option ConnFault) (s x : Session) → o ≡ None → unless o s x ≡ x
unless_none None s x is = refl
unless_none (Some e) s x is = absurd cc

pub sent-events : (s : Session) (id : ℕ) (piece : List ℕ) (last : Bool) → (sent s id piece last).events ≡ s.events
unfolding sent
sent-events s id piece last = refl

pub record IsSent (old new : Reading) : Type 0 where
  pub moves : Moves old new [] [] []
  pub fault : new.state.fault ≡ None
  pub events : new.state.events ≡ old.state.events

unfoldable pub sent_moves : (o : Option ConnFault) (old new : Reading) (id : ℕ) (piece : List ℕ) (last : Bool) (value n : ℕ) → old.state.fault ≡ o → o ≡ None → AnswersAt o old.state (sent old.state id piece last) value new.state (Ok n) → new.rest ≡ old.rest → (old.state.fault ≡ None → IsHeld old.state id false) → IsSent old new
sent_moves (Some e) old new id piece last value n is none d rest held = absurd cc
sent_moves None old new id piece last value n is none d rest held =
    let state : unless old.state.fault old.state (sent old.state id piece last) ≡ new.state = unless_none old.state.fault old.state _ is ∙ sym d.0 in
    record {
      moves = record {
        calls = Sends id piece last ∷ [];
        run_is = ap (λ (x : Session). record { state = x; rest = old.rest }) state ∙ ap (λ (x : List ℕ). record { state = new.state; rest = x }) (sym rest);
        given_is = refl;
        fed_is = refl;
        handed_is = refl;
        paced = (tt, tt);
        sends = (held, tt);
      };
      fault = ap (λ (x : Session). x.fault) d.0 ∙ (sent-fault old.state id piece last ∙ is);
      events = ap (λ (x : Session). x.events) d.0 ∙ sent-events old.state id piece last;
    }

-- what came, and how the connection stands after it
pub came_no_want : (came : Came) (before ended : Bool) (c : Reading) → CameBy came before ended c → c.state.fault ≡ Some NoMemory → ⊥
came_no_want End before ended c is bad = let none = is.1 in let no : None ≡ Some NoMemory = sym none ∙ bad in cc
came_no_want Piece before ended c is bad = let none = is.1 in let no : None ≡ Some NoMemory = sym none ∙ bad in cc
came_no_want (Broken code) before ended c is bad = let no : Some (Protocol code) ≡ Some NoMemory = sym is ∙ bad in cc

pub came_end : (came : Came) (before ended : Bool) (c : Reading) → CameBy came before ended c → is_end came ≡ true → (ended ≡ true) × (c.state.fault ≡ None)
came_end End before ended c is e = is
came_end Piece before ended c is e = absurd cc
came_end (Broken code) before ended c is e = absurd cc

pub came_piece : (came : Came) (before ended : Bool) (c : Reading) → is_piece came ≡ true → CameBy came before ended c → (ended ≡ before) × (c.state.fault ≡ None)
came_piece End before ended c e is = absurd cc
came_piece Piece before ended c e is = is
came_piece (Broken code) before ended c e is = absurd cc

pub piece_came : (came : Came) (ended : Bool) (c : Reading) → is_piece came ≡ true → ended ≡ false → c.state.fault ≡ None → CameBy came false ended c
piece_came End ended c e is none = absurd cc
piece_came Piece ended c e is none = (is, none)
piece_came (Broken code) ended c e is none = absurd cc

pub came_broken : (came : Came) (code : ℕ) (before ended : Bool) (c : Reading) → came ≡ Broken code → CameBy came before ended c → (c.state.fault ≡ Some (Protocol code)) × (is_end came ≡ false)
came_broken End code before ended c e is = absurd cc
came_broken Piece code before ended c e is = absurd cc
came_broken (Broken n) code before ended c e is = let same : n ≡ code = cc in (is ∙ ap (λ (x : ℕ). Some (Protocol x)) same, refl)

pub came_alive : (came : Came) (ended : Bool) (c : Reading) (away : Bool) → CameBy came false ended c → (is_piece came && not away) ≡ (is_none c.state.fault && (not ended && not away))
came_alive End ended c away is = rw (is.0, is.1) refl
came_alive Piece ended c away is = rw (is.0, is.1) refl
came_alive (Broken code) ended c away is = rw is refl

pub came_same : (came : Came) (before ended : Bool) (c d : Reading) → before ≡ false → d.state.fault ≡ c.state.fault → CameBy came before ended c → CameBy came false ended d
came_same End before ended c d going same is = (is.0, same ∙ is.1)
came_same Piece before ended c d going same is = (is.0 ∙ going, same ∙ is.1)
came_same (Broken code) before ended c d going same is = same ∙ is

-- a call is open after a part of its request was given
pub given_open :
    (w0 w1 : Option Wire) (r0 r1 : List ℕ → List ℕ → Type 0) (e0 e1 : Bool) (c0 c1 c2 : Reading) (o n : OpenCall)
    → IsOpen w0 r0 e0 c0 o → is_piece o.came ≡ true → Moves c0 c1 [] [] [] → IsHeld c1.state o.call.id n.request.done → c1.state.events ≡ c0.state.events → c1.state.fault ≡ None
    → Exchange w0 w1 c1 c2 0 0 → (Meets w0 r0 → Meets w1 r1) → KeepsHeld c1.state c2.state → e1 ≡ e0 → c2.state.fault ≡ c1.state.fault → IsDrained c2.state
    → n.call ≡ o.call → n.came ≡ o.came → IsOpen w1 r1 e1 c2 n
given_open w0 w1 r0 r1 e0 e1 c0 c1 c2 o n t piece m h events fault x m1 h1 same kept drained call came =
    let pushed = hears_moved w0 r0 c0 c1 o.call t.hears m in
    let flushed = hears_exchange w0 w1 r0 r1 c1 c2 0 0 o.call pushed x (m1 t.met) in
    let stands = came_piece o.came false e0 c0 piece t.came in
    record {
      hears = subst (λ (k : Call). CallHears w1 r1 c2 k) (sym call) flushed;
      held = subst (λ (k : Call). IsHeld c2.state k.id n.request.done) (sym call) (h1 o.call.id n.request.done h);
      empty = drained.events;
      met = m1 t.met;
      came = subst (λ (k : Came). CameBy k false e1 c2) (sym came) (piece_came o.came e1 c2 piece (same ∙ stands.0) (kept ∙ fault));
    }

-- and after a piece was heard
pub heard_open :
    (w1 w2 : Option Wire) (r1 r2 : List ℕ → List ℕ → Type 0) (e1 e2 : Bool) (c2 c3 c4 : Reading) (o n : OpenCall) (came : Came) (room left : ℕ)
    → IsOpen w1 r1 e1 c2 o → is_piece o.came ≡ true
    → Exchange w1 w2 c2 c3 room left → Meets w2 r2 → KeepsHeld c2.state c3.state → CameBy came e1 e2 c3
    → Drains c3 c4 o.call n.call → c4.state.events ≡ [] → n.request ≡ o.request → n.came ≡ came → IsOpen w2 r2 e2 c4 n
heard_open w1 w2 r1 r2 e1 e2 c2 c3 c4 o n came room left t piece y m2 h2 is d empty request came_is =
    let fed = hears_exchange w1 w2 r1 r2 c2 c3 room left o.call t.hears y m2 in
    let held = d.held o.call.id o.request.done (h2 o.call.id o.request.done t.held) in
    record {
      hears = hears_drained w2 r2 c3 c4 o.call n.call fed d;
      held = rw (d.id, request) held;
      empty = empty;
      met = m2;
      came = subst (λ (k : Came). CameBy k false e2 c4) (sym came_is) (came_same came e1 e2 c3 c4 (came_piece o.came false e1 c2 piece t.came).0 d.fault is);
    }

pub open_at : (w : Option Wire) (r : List ℕ → List ℕ → Type 0) (ended : Bool) (conn : Reading) (o : OpenCall) → IsOpen w r ended conn o → IsHeardAt w r conn o.call
open_at w r ended conn o t = record {
  hears = t.hears;
  opened = t.held.opened;
  kept = t.held.kept;
  empty = t.empty;
  memory = came_no_want o.came false ended conn t.came;
}

-- a call that differs in nothing that counts
pub record IsLike (o n : OpenCall) : Type 0 where
  pub id : n.call.id ≡ o.call.id
  pub answers : n.call.answers ≡ o.call.answers
  pub place : n.call.place ≡ o.call.place
  pub away : n.call.away ≡ o.call.away
  pub request : n.request ≡ o.request
  pub room : n.room ≡ o.room
  pub came : n.came ≡ o.came

unfoldable pub hears_like : (w : Option Wire) (r : List ℕ → List ℕ → Type 0) (conn : Reading) (o n : OpenCall) → CallHears w r conn o.call → IsLike o n → CallHears w r conn n.call
hears_like w r conn o n h like = record {
  talk = h.talk;
  given = h.given;
  count = h.count ∙ sym like.place;
  heard_is = ap (front h.given) like.answers ∙ (h.heard_is ∙ ap (λ (i : ℕ). heard nothing (filter (is_for i) h.talk.handed)) (sym like.id));
  away_is = like.away ∙ h.away_is;
}

pub open_like : (w : Option Wire) (r : List ℕ → List ℕ → Type 0) (ended : Bool) (conn : Reading) (o n : OpenCall) → IsOpen w r ended conn o → IsLike o n → IsOpen w r ended conn n
open_like w r ended conn o n t like = record {
  hears = hears_like w r conn o n t.hears like;
  held = let request = like.request in rw (like.id, request) t.held;
  empty = t.empty;
  met = t.met;
  came = rw like.came t.came;
}

-- an open call whose link and connection can take another one
pub open_kept : (w : Option Wire) (r : List ℕ → List ℕ → Type 0) (ended : Bool) (conn : Reading) (o : OpenCall) → IsOpen w r ended conn o → alive_of o ≡ true → IsKept w r ended conn
open_kept w r ended conn o t lives =
    let both = and_true (is_piece o.came) (not o.call.away) lives in
    let stands = came_piece o.came false ended conn both.0 t.came in
    record {
      fault = stands.1;
      empty = t.empty;
      going = stands.0;
      met = t.met;
      talk = t.hears.talk;
      stays = sym t.hears.away_is ∙ not_true o.call.away both.1;
    }

-- an answer is shown
pub open_over : {A : Type 0} (look view : Bool → Heard → Option A) (w : Option Wire) (r : List ℕ → List ℕ → Type 0) (ended : Bool) (conn : Reading) (o : OpenCall) (x : A) → IsLook look view o.call.place → IsOpen w r ended conn o → view (is_end o.came) o.call.answers ≡ Some x → IsOver look w r ended conn o.call.id (alive_of o) x
unfolding open_at shows_by
open_over look view w r ended conn o x l t shows = record {
  shows = shows_by look view w r conn o.call ended (is_end o.came) x l (open_at w r ended conn o t) (came_end o.came false ended conn t.came) shows;
  kept = open_kept w r ended conn o t;
  opened = (t.held.opened, t.held.kept);
  alive_is = came_alive o.came ended conn o.call.away t.came ∙ ap (λ (b : Bool). is_none conn.state.fault && (not ended && not b)) t.hears.away_is;
}

-- nothing is shown: a rule was broken before that
pub open_breaks : {A : Type 0} (look view : Bool → Heard → Option A) (w : Option Wire) (r : List ℕ → List ℕ → Type 0) (ended : Bool) (conn : Reading) (o : OpenCall) (code : ℕ) → IsLook look view o.call.place → IsOpen w r ended conn o → o.came ≡ Broken code → view (is_end o.came) o.call.answers ≡ None → Breaks look w r conn o.call.id code
open_breaks look view w r ended conn o code l t broken none =
    let both = came_broken o.came code false ended conn broken t.came in
    breaks_by look view w r conn o.call code l (open_at w r ended conn o t) both.0 (ap (λ (x : Bool). view x o.call.answers) (sym both.1) ∙ none)

-- what went over the link, and over the connection
pub give_carries : (w0 w1 : Option Wire) (c0 c1 c2 : Reading) (room : ℕ) → Moves c0 c1 [] [] [] → Exchange w0 w1 c1 c2 0 0 → Carries w0 w1 c0 c2 room room
give_carries w0 w1 c0 c1 c2 room m x = record { given = x.given; fed = x.fed; handed = []; moves = moves_trans c0 c1 c2 [] [] x.given x.fed [] [] m x.moves; carries = x.carries; count = omega (arith, x.count) }

pub hear_carries : (w1 w2 : Option Wire) (c2 c3 c4 : Reading) (room left : ℕ) (a b : Call) → Exchange w1 w2 c2 c3 room left → Drains c3 c4 a b → Carries w1 w2 c2 c4 room left
hear_carries w1 w2 c2 c3 c4 room left a b x d = record {
  given = x.given ++ [];
  fed = x.fed ++ [];
  handed = d.out;
  moves = moves_trans c2 c3 c4 x.given x.fed [] [] [] d.out x.moves d.moves;
  carries = rw (append-nil x.given, append-nil x.fed) x.carries;
  count = rw (append-nil x.fed) x.count;
}
