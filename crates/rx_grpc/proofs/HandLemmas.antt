-- Items that are handed out of an open call.
use Rattle.std.proofs.Common.{◌≡◌, ℕ, ◌+◌, Bool, true, false, cond, not, ◌==◌, List, [], ◌∷◌, ◌++◌, length, drop, filter, refl, sym, ap, subst, ◌∙◌, append_assoc, inl, inr, length-append, Option, None, Some, Result, Ok, Err, IfOk, IfErr}
use Rattle.rx_h2conn.specs.Session.{Reading}
use Rattle.rx_world.specs.Links.{Wire}
use Rattle.rx_grpc.specs.declared.end.End.{End}
use Rattle.rx_grpc.specs.declared.end.End.TheVariants as Ends
use Rattle.rx_grpc.specs.declared.open_call.OpenCall.{OpenCall}
use Rattle.rx_grpc.specs.declared.stream_item.StreamItem.{StreamItem}
use Rattle.rx_grpc.specs.declared.stream_item.StreamItem.TheVariants as Items
use Rattle.rx_grpc.specs.declared.transfer_fault.TransferFault.{TransferFault}
use Rattle.rx_grpc.specs.declared.transfer_fault.TransferFault.TheVariants.{Link, Protocol, NoMemory}
use Rattle.rx_grpc.specs.Came.{judged, is_end}
use Rattle.rx_grpc.specs.Heard.{Heard, heard, nothing}
use Rattle.rx_grpc.specs.Item.{item, item_at_end, item_by, item_behind, item_of_end, is_message, after_item, place_after}
use Rattle.rx_grpc.specs.Moves.{Carries, is_for}
use Rattle.rx_grpc.specs.Uses.{front}
use Rattle.rx_grpc.specs.Conversation.{CallHears, IsOpen, alive_of}
use Rattle.rx_grpc.specs.Faults.{FaultIs}
use Rattle.rx_grpc.specs.Sent.{Handing, StillAsks, given_after}
use Rattle.rx_grpc.specs.Shown.{IsOver}
use Rattle.rx_grpc.specs.Streamed.{Hands, NextFault}
use Rattle.rx_grpc.specs.Transport.{opened_by}
use Rattle.rx_grpc.proofs.ItemLemmas.{item_look}
use Rattle.rx_grpc.proofs.AskingLemmas.{asking_as}
use Rattle.rx_grpc.proofs.TalkLemmas.{judged_over, judged_some}
use Rattle.rx_grpc.proofs.TurnLemmas.{IsLike}

pub chosen_message : (b cut : Bool) (code : ℕ) → is_message (cond b (Items.Success cut) (Items.Status code)) ≡ false
chosen_message true cut code = refl
chosen_message false cut code = refl

pub end_no_message : (e : End) (cut : Bool) → is_message (item_of_end e cut) ≡ false
end_no_message (Ends.Status code) cut = chosen_message (code == 0) cut code
end_no_message Ends.Compressed cut = refl
end_no_message Ends.TooLarge cut = refl
end_no_message Ends.NoStatus cut = refl

pub last_no_message : (o : Option End) (cut ended : Bool) (x : StreamItem) → item_at_end o cut ended ≡ Some x → is_message x ≡ false
last_no_message None cut true x is = let same : Items.LinkEnd ≡ x = cc in ap is_message (sym same)
last_no_message None cut false x is = absurd cc
last_no_message (Some e) cut ended x is = let same : item_of_end e cut ≡ x = cc in ap is_message (sym same) ∙ end_no_message e cut

-- what was handed out, after one item more
pub record IsGiven (given : List (List ℕ)) (h : Heard) (x : StreamItem) : Type 0 where
  pub all : List (List ℕ)
  pub all_is : all ≡ given_after x given
  pub heard_is : front all (after_item (Some x) h) ≡ front given h
  pub count : length all ≡ place_after (Some x) (length given)

pub given_message : (given : List (List ℕ)) (h : Heard) (m : List ℕ) (ms : List (List ℕ)) (x : StreamItem) → h.messages ≡ m ∷ ms → Items.Message m ≡ x → IsGiven given h x
given_message given h m ms x is same = rw (sym same) (record {
  all = given ++ m ∷ [];
  all_is = refl;
  heard_is = rw is (ap (λ (z : List (List ℕ)). record h { messages = z }) (append_assoc given (m ∷ []) ms));
  count = length-append given (m ∷ []);
})

pub given_same : (x : StreamItem) (given : List (List ℕ)) → is_message x ≡ false → given_after x given ≡ given
given_same (Items.Message m) given last = absurd cc
given_same (Items.Success cut) given last = refl
given_same (Items.Status code) given last = refl
given_same Items.Compressed given last = refl
given_same Items.TooLarge given last = refl
given_same Items.NoStatus given last = refl
given_same Items.LinkEnd given last = refl

pub given_none : (given : List (List ℕ)) (h : Heard) (x : StreamItem) → is_message x ≡ false → IsGiven given h x
given_none given h x last = record {
  all = given;
  all_is = sym (given_same x given last);
  heard_is = ap (λ (b : Bool). front given (cond b (record h { messages = drop 1 h.messages }) h)) last;
  count = sym (ap (λ (b : Bool). cond b (length given + 1) (length given)) last);
}

pub given_item : (given : List (List ℕ)) (h : Heard) (ms : List (List ℕ)) (ended : Bool) (x : StreamItem) → h.messages ≡ ms → item_by ms h.end (not (length h.rest == 0)) ended ≡ Some x → IsGiven given h x
given_item given h (m ∷ ms) ended x is shown = given_message given h m ms x is cc
given_item given h [] ended x is shown = given_none given h x (last_no_message h.end (not (length h.rest == 0)) ended x shown)

-- how a call stands after an item was handed out of it
pub record HandsOne (o n : OpenCall) (shown : Option StreamItem) : Type 0 where
  pub id : n.call.id ≡ o.call.id
  pub answers : n.call.answers ≡ after_item shown o.call.answers
  pub place : n.call.place ≡ place_after shown o.call.place
  pub away : n.call.away ≡ o.call.away
  pub request : n.request ≡ o.request
  pub room : n.room ≡ o.room
  pub came : n.came ≡ o.came

unfoldable pub hears_handed : (w : Option Wire) (r : List ℕ → List ℕ → Type 0) (conn : Reading) (o n : OpenCall) (x : StreamItem) → CallHears w r conn o.call → item (is_end o.came) o.call.answers ≡ Some x → HandsOne o n (Some x) → CallHears w r conn n.call
hears_handed w r conn o n x c shown one =
    let h = o.call.answers in
    let g = given_item c.given h h.messages (is_end o.came) x refl shown in
    record {
      talk = c.talk;
      given = g.all;
      count = g.count ∙ (ap (place_after (Some x)) c.count ∙ sym one.place);
      heard_is = ap (front g.all) one.answers ∙ (g.heard_is ∙ (c.heard_is ∙ ap (λ (i : ℕ). heard nothing (filter (is_for i) c.talk.handed)) (sym one.id)));
      away_is = one.away ∙ c.away_is;
    }

pub open_handed : (w : Option Wire) (r : List ℕ → List ℕ → Type 0) (ended : Bool) (conn : Reading) (o n : OpenCall) (x : StreamItem) → IsOpen w r ended conn o → item (is_end o.came) o.call.answers ≡ Some x → HandsOne o n (Some x) → IsOpen w r ended conn n
open_handed w r ended conn o n x t shown one =
    let request = one.request in
    record {
      hears = hears_handed w r conn o n x t.hears shown one;
      held = rw (one.id, request) t.held;
      empty = t.empty;
      met = t.met;
      came = rw one.came t.came;
    }

-- and it asks what it asked
pub hands_asks : (w0 w : Option Wire) (r0 r : List ℕ → List ℕ → Type 0) (start conn : Reading) (first o n : OpenCall) (shown : Option StreamItem) (done : Result StreamItem TransferFault) → shown ≡ item (is_end o.came) o.call.answers → judged shown o.came ≡ Some done → HandsOne o n shown → StillAsks w0 w r0 r start conn first o [] [] → IfOk done (Handing w0 w r0 r start conn first n)
unfolding hears_handed
hands_asks w0 w r0 r start conn first o n shown (Err fault) is j one asks = tt
hands_asks w0 w r0 r start conn first o n shown (Ok answer) is j one asks = λ fields messages given a.
    let some = judged_some shown o.came answer j in
    let whole = subst (λ (s : Option StreamItem). HandsOne o n s) some one in
    let now = asks fields messages given a in
    let h = o.call.answers in
    let all = (given_item now.hears.given h h.messages (is_end o.came) answer refl (sym is ∙ some)).all_is in
    asking_as w r conn o n [] fields messages given (given_after answer given) now (hears_handed w r conn o n answer now.hears (sym is ∙ some) whole) refl (all ∙ ap (given_after answer) now.given_is) whole.id whole.request

pub alive_same : (o n : OpenCall) → n.came ≡ o.came → n.call.away ≡ o.call.away → alive_of n ≡ alive_of o
alive_same o n came away = rw (came, away) refl

-- the item of a call that began as first
pub hands_item : (w0 w : Option Wire) (r : List ℕ → List ℕ → Type 0) (ended : Bool) (start conn : Reading) (first o n : OpenCall) (shown : Option StreamItem) (done : Result StreamItem TransferFault) → IsOpen w r ended conn o → o.call.place ≡ first.call.place → o.call.id ≡ first.call.id → Carries w0 w start conn first.room o.room → shown ≡ item (is_end o.came) o.call.answers → judged shown o.came ≡ Some done → HandsOne o n shown → IfOk done (Hands w0 w r ended start conn first n)
hands_item w0 w r ended start conn first o n shown (Err fault) t at same carries is j one = tt
hands_item w0 w r ended start conn first o n shown (Ok x) t at same carries is j one =
    let some = judged_some shown o.came x j in
    let over : IsOver (item_behind first.call.place) w r ended conn first.call.id (alive_of o) x = judged_over (item_behind first.call.place) item first.call.place w r ended conn o shown (Ok x) first.call.id (item_look first.call.place) t at same is j in
    let whole = subst (λ (s : Option StreamItem). HandsOne o n s) some one in
    record {
      over = subst (λ (b : Bool). IsOver (item_behind first.call.place) w r ended conn first.call.id b x) (sym (alive_same o n one.came one.away)) over;
      carries = subst (λ (k : ℕ). Carries w0 w start conn first.room k) (sym one.room) carries;
      open_still = open_handed w r ended conn o n x t (sym is ∙ some) whole;
      id = one.id ∙ same;
      place = whole.place ∙ ap (place_after (Some x)) at;
    }

-- a fault of turns is one of the next item
pub next_fault : (o : OpenCall) (fault : TransferFault) (before now : Option Wire) (r : List ℕ → List ℕ → Type 0) (conn : Reading) → FaultIs (item_behind o.call.place) o.room fault before now r conn o.call.id → NextFault (opened_by o) fault before now r conn
next_fault o (Protocol code) before now r conn (inl breaks) = inl breaks
next_fault o (Protocol code) before now r conn (inr full) = inr (full.0, inl full.1)
next_fault o Link before now r conn f = tt
next_fault o NoMemory before now r conn f = tt

pub next_faults : (o : OpenCall) (result : Result StreamItem TransferFault) (before now : Option Wire) (r : List ℕ → List ℕ → Type 0) (conn : Reading) → IfErr result (λ fault. FaultIs (item_behind o.call.place) o.room fault before now r conn o.call.id) → IfErr result (λ fault. NextFault (opened_by o) fault before now r conn)
next_faults o (Ok x) before now r conn f = tt
next_faults o (Err fault) before now r conn f = next_fault o fault before now r conn f

-- the same for a call that nothing was handed out of
pub none_handed : (o n : OpenCall) (shown : Option StreamItem) → HandsOne o n shown → shown ≡ None → IsLike o n
none_handed o n shown one none = record {
  id = one.id;
  answers = one.answers ∙ ap (λ (s : Option StreamItem). after_item s o.call.answers) none;
  place = one.place ∙ ap (λ (s : Option StreamItem). place_after s o.call.place) none;
  away = one.away;
  request = one.request;
  room = one.room;
  came = one.came;
}
