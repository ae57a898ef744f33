-- A conversation goes on, and a call hears it.
use Rattle.std.proofs.Common.{ℕ, Bool, ◌||◌, List, [], ◌++◌, append-nil, filter, sym, ap, subst, ◌∙◌, Option, None, Some}
use Rattle.std.proofs.lemmas.List.Elements.{filter-append}
use Rattle.std.specs.List.{list_any}
use Rattle.rx_h2conn.specs.Session.{Reading, Event}
use Rattle.rx_h2conn.specs.Conn.{started}
use Rattle.rx_world.specs.Links.{Wire, Goes, Meets}
use Rattle.rx_grpc.specs.declared.call.Call.{Call}
use Rattle.rx_grpc.specs.Heard.{Heard, nothing, heard}
use Rattle.rx_grpc.specs.Uses.{front}
use Rattle.rx_grpc.specs.Moves.{Moves, Exchange, carried, is_for, is_away}
use Rattle.rx_grpc.specs.Conversation.{Conversation, Tells, CallHears, Drains}
use Rattle.rx_grpc.proofs.UseLemmas.{front_heard, heard_append}
use Rattle.rx_grpc.proofs.MoveLemmas.{moves_trans}
use Rattle.rx_grpc.proofs.DrainLemmas.{any_append}

pub tells_on : (w n : Option Wire) (sent received given fed : List ℕ) → Tells w sent received → Goes w n (carried given fed) → Tells n (sent ++ given) (received ++ fed)
tells_on None None sent received given fed t g = tt
tells_on None (Some y) sent received given fed t g = absurd g
tells_on (Some x) None sent received given fed t g = absurd g
tells_on (Some x) (Some y) sent received given fed t g = g ∙ ap (carried given fed) t

-- the bytes meet the rule of their link
pub meets_rule : (w : Option Wire) (r : List ℕ → List ℕ → Type 0) (sent received : List ℕ) → Meets w r → Tells w sent received → r sent received
meets_rule None r sent received m t = m sent received
meets_rule (Some x) r sent received m t = subst (λ (y : Wire). r y.sent y.received) t m

-- by calls that hand out some events, and give and are fed what the link carried
unfoldable pub talk_on : (w n : Option Wire) (r m : List ℕ → List ℕ → Type 0) (c d : Reading) (given fed : List ℕ) (out : List Event) → Conversation w r c → Moves c d given fed out → Goes w n (carried given fed) → Meets n m → Conversation n m d
talk_on w n r m c d given fed out t moves carries meets =
    let tells = tells_on w n t.sent t.received given fed t.tells carries in
    record {
      sent = t.sent ++ given;
      received = t.received ++ fed;
      handed = t.handed ++ out;
      moves = moves_trans started c d t.sent t.received given fed t.handed out t.moves moves;
      tells = tells;
      meets = meets_rule n m _ _ meets tells;
    }

unfoldable pub hears_exchange : (w n : Option Wire) (r m : List ℕ → List ℕ → Type 0) (c d : Reading) (room left : ℕ) (call : Call) → CallHears w r c call → Exchange w n c d room left → Meets n m → CallHears n m d call
unfolding talk_on
hears_exchange w n r m c d room left call h x meets = record {
  talk = talk_on w n r m c d x.given x.fed [] h.talk x.moves x.carries meets;
  given = h.given;
  count = h.count;
  heard_is = h.heard_is ∙ ap (λ (y : List Event). heard nothing (filter (is_for call.id) y)) (sym (append-nil h.talk.handed));
  away_is = h.away_is ∙ ap (list_any is_away) (sym (append-nil h.talk.handed));
}

-- by calls that leave the link alone
unfoldable pub talk_moved : (w : Option Wire) (r : List ℕ → List ℕ → Type 0) (c d : Reading) (out : List Event) → Conversation w r c → Moves c d [] [] out → Conversation w r d
talk_moved w r c d out t moves =
    let sent = append-nil t.sent in
    let received = append-nil t.received in
    record {
      sent = t.sent ++ [];
      received = t.received ++ [];
      handed = t.handed ++ out;
      moves = moves_trans started c d t.sent t.received [] [] t.handed out t.moves moves;
      tells = rw (sent, received) t.tells;
      meets = rw (sent, received) t.meets;
    }

unfoldable pub hears_moved : (w : Option Wire) (r : List ℕ → List ℕ → Type 0) (c d : Reading) (call : Call) → CallHears w r c call → Moves c d [] [] [] → CallHears w r d call
unfolding talk_moved
hears_moved w r c d call h moves = record {
  talk = talk_moved w r c d [] h.talk moves;
  given = h.given;
  count = h.count;
  heard_is = h.heard_is ∙ ap (λ (y : List Event). heard nothing (filter (is_for call.id) y)) (sym (append-nil h.talk.handed));
  away_is = h.away_is ∙ ap (list_any is_away) (sym (append-nil h.talk.handed));
}

unfoldable pub hears_drained : (w : Option Wire) (r : List ℕ → List ℕ → Type 0) (c d : Reading) (a b : Call) → CallHears w r c a → Drains c d a b → CallHears w r d b
unfolding talk_moved
hears_drained w r c d a b h is =
    let handed = h.talk.handed in
    record {
      talk = talk_moved w r c d is.out h.talk is.moves;
      given = h.given;
      count = h.count ∙ sym is.place;
      heard_is =
          ap (front h.given) is.heard_is
          ∙ (sym (front_heard h.given a.answers (filter (is_for a.id) is.out))
          ∙ (ap (λ (x : Heard). heard x (filter (is_for a.id) is.out)) h.heard_is
          ∙ (sym (heard_append nothing (filter (is_for a.id) handed) (filter (is_for a.id) is.out))
          ∙ (ap (heard nothing) (sym (filter-append (is_for a.id) handed is.out))
          ∙ ap (λ (i : ℕ). heard nothing (filter (is_for i) (handed ++ is.out))) (sym is.id)))));
      away_is = is.away_is ∙ (ap (λ (x : Bool). x || list_any is_away is.out) h.away_is ∙ sym (any_append is_away handed is.out));
    }
