-- Streams that are opened for calls, and those that are given up.
use Rattle.std.proofs.Common.{◌≡◌, ◌≢◌, ℕ, ◌+◌, ◌*◌, ◌/◌, Bool, true, false, cond, List, [], ◌∷◌, ◌++◌, length, filter, append-nil, nat_lt, refl, sym, ap, subst, ◌∙◌, arith, Option, None, Some, Result, Ok, Err, IfOk, IfSome, MatchOption}
use Rattle.std.proofs.lemmas.Bool.{le-ltb}
use Rattle.std.proofs.Math.Bool.{and-false}
use Rattle.std.specs.List.{list_any}
use Rattle.rx_hpack.specs.Header.{Field}
use Rattle.rx_h2conn.specs.declared.fault.ConnFault.{ConnFault}
use Rattle.rx_h2conn.specs.declared.fault.ConnFault.TheVariants.{NoMemory}
use Rattle.rx_h2conn.specs.Session.{Session, Reading, Event, Headers, Bytes, Reset, Gone, Queued}
use Rattle.rx_h2conn.specs.Streams.{IsHeld, is_open}
use Rattle.rx_h2conn.specs.Output.{AnswersAt, reset}
use Rattle.rx_h2conn.specs.Open.{refusal, next_id, opened}
use Rattle.rx_h2conn.specs.Conn.{started}
use Rattle.rx_h2conn.specs.Part.{is_on, leaves_out}
use Rattle.rx_h2conn.specs.History.{Opens, Resets, unless, run}
use Rattle.rx_h2conn.specs.Heard.{all_handed, events_of}
use Rattle.rx_h2conn.proofs.BlockLemmas.{count_given_up}
use Rattle.rx_h2conn.proofs.ConnLemmas.{opened-fault, reset-fault}
use Rattle.rx_h2conn.proofs.HeardRunLemmas.{hears}
use Rattle.rx_h2conn.proofs.ListLemmas.{or_false}
use Rattle.rx_world.specs.Links.{Wire, IsNew, Meets}
use Rattle.rx_grpc.specs.declared.call.Call.{Call}
use Rattle.rx_grpc.specs.declared.came.Came.TheVariants.{Piece}
use Rattle.rx_grpc.specs.declared.open_call.OpenCall.{OpenCall}
use Rattle.rx_grpc.specs.declared.transfer_fault.TransferFault.{TransferFault}
use Rattle.rx_grpc.specs.Heard.{Heard, nothing, heard}
use Rattle.rx_grpc.specs.Moves.{Moves, is_away, is_for}
use Rattle.rx_grpc.specs.Conversation.{CallHears, Conversation, IsOpen, Tells}
use Rattle.rx_grpc.specs.Shown.{IsKept, IsOpenAt, IsOver}
use Rattle.rx_grpc.specs.Transport.{TransportOf, IsOpenOr, IsStarted, IsReady, GivesUp, OpensStream, opened_of}
use Rattle.rx_grpc.proofs.MoveLemmas.{moves_none, moves_trans}
use Rattle.rx_grpc.proofs.ConversationLemmas.{talk_moved, meets_rule}
use Rattle.rx_grpc.proofs.TurnLemmas.{unless_none}

pub gives_none : (old : Reading) → old.state.fault ≡ None → GivesUp old old
gives_none old none = record { moves = moves_none old; fault = none; events = refl; refusal = refl; next = refl }

pub reset-events : (s : Session) (id code : ℕ) → (reset s id code).events ≡ s.events
unfolding reset
reset-events s id code = refl

pub reset-gone : (s : Session) (id code : ℕ) → (reset s id code).gone ≡ s.gone
unfolding reset
reset-gone s id code = refl

pub reset-refusal : (s : Session) (id code : ℕ) → refusal (reset s id code) ≡ refusal s
reset-refusal s id code = rw (reset-fault s id code, reset-gone s id code, count_given_up s id code) refl

pub gives_up : (o : Option ConnFault) (old new : Reading) (id code : ℕ) (u v : Unit {0}) → old.state.fault ≡ o → o ≡ None → AnswersAt o old.state (reset old.state id code) u new.state (Ok v) → new.rest ≡ old.rest → GivesUp old new
gives_up (Some e) old new id code u v is none d rest = absurd cc
gives_up None old new id code u v is none d rest =
    let s = old.state in
    let state : unless s.fault s (reset s id code) ≡ new.state = unless_none s.fault s _ is ∙ sym d.0 in
    record {
      moves = record {
        calls = Resets id code ∷ [];
        run_is = ap (λ (x : Session). record { state = x; rest = old.rest }) state ∙ ap (λ (x : List ℕ). record { state = new.state; rest = x }) (sym rest);
        given_is = refl;
        fed_is = refl;
        handed_is = refl;
        paced = (tt, tt);
        sends = (tt, tt);
      };
      fault = ap (λ (x : Session). x.fault) d.0 ∙ (reset-fault s id code ∙ is);
      events = ap (λ (x : Session). x.events) d.0 ∙ reset-events s id code;
      refusal = ap refusal d.0 ∙ reset-refusal s id code;
      next = ap next_id d.0 ∙ ap (λ (n : ℕ). n * 2 + 1) (count_given_up s id code);
    }

pub opened-events : (s : Session) (fields : List Field) (last : Bool) → (opened s fields last).events ≡ s.events
unfolding opened
opened-events s fields last = refl

-- a stream that is opened after another was given up
pub opens_next : (o : Option ConnFault) (old mid new : Reading) (fields : List Field) (n : ℕ) → refusal mid.state ≡ o → GivesUp old mid → AnswersAt o mid.state (opened mid.state fields false) (next_id mid.state) new.state (Ok n) → new.rest ≡ mid.rest → IsHeld new.state n false → OpensStream old new fields n × (refusal old.state ≡ None)
unfolding moves_trans
opens_next (Some e) old mid new fields n is g d rest held = let no = d.1 in absurd cc
opens_next None old mid new fields n is g d rest held =
    let s = mid.state in
    let state : unless (refusal s) s (opened s fields false) ≡ new.state = rw is (sym d.0) in
    let step : Moves mid new [] [] [] = record {
      calls = Opens fields false ∷ [];
      run_is = ap (λ (x : Session). record { state = x; rest = mid.rest }) state ∙ ap (λ (x : List ℕ). record { state = new.state; rest = x }) (sym rest);
      given_is = refl;
      fed_is = refl;
      handed_is = refl;
      paced = (tt, tt);
      sends = (tt, tt);
    } in (
      record {
        moves = moves_trans old mid new [] [] [] [] [] [] g.moves step;
        before = g.moves.calls;
        calls_are = refl;
        free = ap (λ (x : Reading). refusal x.state) g.moves.run_is ∙ is;
        stream = d.1 ∙ ap (λ (x : Reading). next_id x.state) (sym g.moves.run_is);
        fault = ap (λ (x : Session). x.fault) d.0 ∙ (opened-fault s fields false ∙ g.fault);
        events = ap (λ (x : Session). x.events) d.0 ∙ (opened-events s fields false ∙ g.events);
        held = held;
        next = d.1 ∙ g.next;
      },
      sym g.refusal ∙ is,
    )

-- the connection takes no stream
pub refuses : (o : Option ConnFault) (old mid new : Reading) (fields : List Field) (last : Bool) (e : ConnFault) → refusal mid.state ≡ o → GivesUp old mid → AnswersAt o mid.state (opened mid.state fields last) (next_id mid.state) new.state (Err e) → (e ≡ NoMemory → ⊥) → refusal old.state ≢ None
refuses (Some x) old mid new fields last e is g d not = λ bad. let no : Some x ≡ None = sym is ∙ (g.refusal ∙ bad) in cc
refuses None old mid new fields last e is g d not = absurd (not d.1)

-- nothing was told of the next stream
pub not_out : (id : ℕ) (e : Event) → is_away e ≡ false → leaves_out id e ≡ false
not_out id (Gone last) is = absurd cc
not_out id (Headers stream list last) is = refl
not_out id (Bytes stream bytes last) is = refl
not_out id (Reset stream code) is = refl

pub next_unopened : (s : Session) → is_open s (next_id s) ≡ false
next_unopened s =
    let n = length s.streams in
    let place : (n * 2 + 1) / 2 ≡ n = omega arith in
    let past : nat_lt ((n * 2 + 1) / 2) n ≡ false = rw place (le-ltb n n (omega arith)) in
    rw past (and-false _)

pub none_for : (id : ℕ) (events : List Event) → filter (is_on id) events ≡ [] → list_any is_away events ≡ false → filter (is_for id) events ≡ []
none_for id [] a b = refl
none_for id (e ∷ events) a b =
    elim (is_on id e) as (λ x. is_on id e ≡ x → filter (is_for id) (e ∷ events) ≡ []) [
      | true ↦ λ is. let bad : e ∷ filter (is_on id) events ≡ [] = subst (λ (x : Bool). cond x (e ∷ filter (is_on id) events) (filter (is_on id) events) ≡ []) is a in absurd cc
      | false ↦ λ is.
          let rest : filter (is_on id) events ≡ [] = subst (λ (x : Bool). cond x (e ∷ filter (is_on id) events) (filter (is_on id) events) ≡ []) is a in
          let two = or_false (is_away e) (list_any is_away events) b in
          let out = not_out id e two.0 in
          rw (is, out) (none_for id events rest two.1)
    ] refl

pub kept_silent : (wire : Option Wire) (rule : List ℕ → List ℕ → Type 0) (ended : Bool) (conn : Reading) (k : IsKept wire rule ended conn) → filter (is_for (next_id conn.state)) k.talk.handed ≡ []
kept_silent wire rule ended conn k =
    let moves = k.talk.moves in
    let calls = moves.calls in
    let state : run started calls ≡ conn = moves.run_is in
    let none : (run started calls).state.fault ≡ None = ap (λ (y : Reading). y.state.fault) state ∙ k.fault in
    let lawful = hears calls (λ bad. let no : None ≡ Some NoMemory = sym none ∙ bad in cc) in
    let all : all_handed started calls ++ events_of (run started calls).state.events ≡ k.talk.handed =
    ap (λ (y : Reading). all_handed started calls ++ events_of y.state.events) state
    ∙ (ap (λ (y : List Queued). all_handed started calls ++ events_of y) k.empty
    ∙ (append-nil (all_handed started calls) ∙ moves.handed_is)) in
    let silent = lawful.silent (next_id conn.state) (ap (λ (y : Reading). is_open y.state (next_id conn.state)) state ∙ next_unopened conn.state) in
    none_for (next_id conn.state) k.talk.handed (ap (filter (is_on (next_id conn.state))) (sym all) ∙ silent) k.stays

-- a stream was opened for the next call
unfoldable pub starts : (wire : Option Wire) (rule : List ℕ → List ℕ → Type 0) (ended : Bool) (old new : Reading) (fields : List Field) (n : ℕ) → IsKept wire rule ended old → OpensStream old new fields n → IsStarted wire rule ended new n
unfolding talk_moved
starts wire rule ended old new fields n k o = record {
  fault = o.fault;
  empty = o.events ∙ k.empty;
  going = k.going;
  held = o.held;
  met = k.met;
  talk = talk_moved wire rule old new [] k.talk o.moves;
  silent = ap (filter (is_for n)) (append-nil k.talk.handed) ∙ (ap (λ (i : ℕ). filter (is_for i) k.talk.handed) o.next ∙ kept_silent wire rule ended old k);
  stays = ap (list_any is_away) (append-nil k.talk.handed) ∙ k.stays;
}

-- a call on it has heard nothing
unfoldable pub hears_new : (wire : Option Wire) (rule : List ℕ → List ℕ → Type 0) (conn : Reading) (call : Call) (id : ℕ) (talk : Conversation wire rule conn) → filter (is_for id) talk.handed ≡ [] → list_any is_away talk.handed ≡ false → call.id ≡ id → call.answers ≡ nothing → call.place ≡ 0 → call.away ≡ false → CallHears wire rule conn call
hears_new wire rule conn call id talk silent stays same new place going = record {
  talk = talk;
  given = [];
  count = sym place;
  heard_is = new ∙ ap (heard nothing) (sym (ap (λ (i : ℕ). filter (is_for i) talk.handed) same ∙ silent));
  away_is = going ∙ sym stays;
}

-- and its call is open
pub waits : (wire : Option Wire) (rule : List ℕ → List ℕ → Type 0) (ended : Bool) (conn : Reading) (o : OpenCall) (id : ℕ) → IsStarted wire rule ended conn id → o.call.id ≡ id → o.call.answers ≡ nothing → o.call.place ≡ 0 → o.call.away ≡ false → o.request.done ≡ false → o.came ≡ Piece → IsOpen wire rule ended conn o
waits wire rule ended conn o id s same new place going left came = record {
  hears = hears_new wire rule conn o.call id s.talk s.silent s.stays same new place going;
  held = rw (same, left) s.held;
  empty = s.empty;
  met = s.met;
  came = rw came (s.going, s.fault);
}

-- a stream that was opened can be given up
pub ready_started : (wire : Option Wire) (rule : List ℕ → List ℕ → Type 0) (ended : Bool) (conn : Reading) (id : ℕ) → IsStarted wire rule ended conn id → IsReady wire rule ended conn (Some id)
ready_started wire rule ended conn id s = record {
  kept = record { fault = s.fault; empty = s.empty; going = s.going; met = s.met; talk = s.talk; stays = s.stays };
  left = (s.held.opened, s.held.kept);
}

-- a new link
pub tells_new : (wire : Option Wire) (ended : Bool) (faults : ℕ) → IsNew wire ended faults → Tells wire [] []
tells_new None ended faults is = tt
tells_new (Some x) ended faults is = is.blank

pub ready_new : (wire : Option Wire) (rule : List ℕ → List ℕ → Type 0) (ended : Bool) (faults : ℕ) (conn : Reading) → IsNew wire ended faults → Meets wire rule → conn ≡ started → IsReady wire rule ended conn None
ready_new wire rule ended faults conn new meets is = rw is (record {
  kept = record {
    fault = refl;
    empty = refl;
    going = new.open_still;
    met = meets;
    talk = record {
      sent = [];
      received = [];
      handed = [];
      moves = moves_none started;
      tells = tells_new wire ended faults new;
      meets = meets_rule wire rule [] [] meets (tells_new wire ended faults new);
    };
    stays = refl;
  };
  left = tt;
})

pub started_by : (wire : Option Wire) (rule : List ℕ → List ℕ → Type 0) (ended : Bool) (old new : Reading) (fields : List Field) (result : Result (Option ℕ) TransferFault) → IsKept wire rule ended old → IfOk result (λ id. MatchOption id (Unit {0}) (OpensStream old new fields)) → IfOk result (λ id. MatchOption id (Unit {0}) (IsStarted wire rule ended new))
started_by wire rule ended old new fields (Ok (Some id)) k o = starts wire rule ended old new fields id k o
started_by wire rule ended old new fields (Ok None) k o = tt
started_by wire rule ended old new fields (Err e) k o = tt

pub started_in : {L : Type 0} (wire : L → Option Wire) (rule : L → List ℕ → List ℕ → Type 0) (ended : L → Bool) (t u : TransportOf L) (id : ℕ) → t ≡ u → IsStarted (wire u.link) (rule u.link) (ended u.link) u.conn id → IsStarted (wire t.link) (rule t.link) (ended t.link) t.conn id
started_in wire rule ended t u id is s = subst (λ x. IsStarted (wire x.link) (rule x.link) (ended x.link) x.conn id) (sym is) s

-- a call is over, and its stream can be given up
pub open_left : (o : Option ℕ) (id : ℕ) (s : Session) → IfSome o (λ i. i ≡ id) → IsOpenAt (Some id) s → IsOpenAt o s
open_left None id s is h = tt
open_left (Some i) id s is h = subst (λ (x : ℕ). IsOpenAt (Some x) s) (sym is) h

-- so the connection can take another call, where it serves still
pub ready_over : {A : Type 0} (look : Bool → Heard → Option A) (wire : Option Wire) (rule : List ℕ → List ℕ → Type 0) (ended : Bool) (conn : Reading) (id : ℕ) (alive kept : Bool) (x : A) (left : Option ℕ) → IsOver look wire rule ended conn id alive x → kept ≡ alive → kept ≡ true → IfSome left (λ i. i ≡ id) → IsReady wire rule ended conn left
ready_over look wire rule ended conn id alive kept x left over same lives is = record { kept = over.kept (sym same ∙ lives); left = open_left left id conn.state is over.opened }

pub left_at : (left : Option ℕ) (id first : ℕ) → IfSome left (λ i. i ≡ id) → id ≡ first → IfSome left (λ i. i ≡ first)
left_at None id first is same = tt
left_at (Some i) id first is same = is ∙ same

-- no answer is open
pub none_open : (wire : Option Wire) (rule : List ℕ → List ℕ → Type 0) (ended : Bool) (conn : Reading) (o : Option OpenCall) → opened_of o ≡ None → IsOpenOr wire rule ended conn o
none_open wire rule ended conn None is = tt
none_open wire rule ended conn (Some o) is = absurd cc
