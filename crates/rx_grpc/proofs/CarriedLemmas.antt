-- A call that was carried, in a conversation that meets a rule: what holds of all such calls holds of what it was answered.
use Rattle.std.proofs.Common.{◌≡◌, ℕ, Bool, true, false, cond, not, ◌==◌, List, [], ◌∷◌, ◌++◌, map, length, drop, append-nil, refl, sym, ap, subst, ◌∙◌, Option, None, Some, Result, Ok, IfOk}
use Rattle.std.specs.List.{AllByRecursion}
use Rattle.std.proofs.lemmas.Bool.{eqb-true}
use Rattle.rx_h2conn.specs.State.{Extends}
use Rattle.rx_world.specs.Links.{SameRule}
use Rattle.rx_world.specs.declared.call_faults.CallFault.{CallFault}
use Rattle.rx_world.specs.declared.links.Link as links
use Rattle.rx_exec_messages.specs.declared.answers.Operation.{Operation}
use Rattle.rx_grpc.specs.declared.end.End.{End}
use Rattle.rx_grpc.specs.declared.end.End.TheVariants as Ends
use Rattle.rx_grpc.specs.declared.stream_item.StreamItem.{StreamItem}
use Rattle.rx_grpc.specs.declared.stream_item.StreamItem.TheVariants as StreamItems
use Rattle.rx_grpc.specs.Channel.{IsRuled}
use Rattle.rx_grpc.specs.Heard.{Heard, heard, nothing}
use Rattle.rx_grpc.specs.Honest.{Always, IfJoined, IfStates}
use Rattle.rx_grpc.specs.Item.{is_message, item_at_end, item_behind, item_by}
use Rattle.rx_grpc.specs.Operations.{operation_by}
use Rattle.rx_grpc.specs.Questions.{Asked}
use Rattle.rx_grpc.specs.Request.{request_fields}
use Rattle.rx_grpc.specs.Sent.{AnsweredOn, AsksOn, IsCall, NextAsksOn, given_after}
use Rattle.rx_grpc.specs.StreamedCalls.{came_of, joined}
use Rattle.rx_grpc.specs.Transport.{TransportOf}
use Rattle.rx_grpc.specs.Uses.{events_at}
use Rattle.rx_grpc.proofs.ItemLemmas.{drop_front}

pub record IsCarried {A : Type 0} (look : Bool → Heard → Option A) (rule : List ℕ → List ℕ → Type 0) (authority : List ℕ) (asked : Asked) (given : List (List ℕ)) (answer : A) : Type 0 where
  pub sent : List ℕ
  pub waiting : List ℕ
  pub received : List ℕ
  pub id : ℕ
  pub heard_is : Heard
  pub ended : Bool
  pub meets : rule sent received
  pub call : IsCall sent waiting received id (request_fields asked.path authority) asked.messages heard_is
  pub shows : look ended heard_is ≡ Some answer
  pub front : Extends given heard_is.messages

pub carried : {A D L : Type 0} (look : Bool → Heard → Option A) (rule : D → List ℕ → List ℕ → Type 0) (link : links.Ghosts L) (dial : D) (t : Option (TransportOf L)) (id : ℕ) (authority : List ℕ) (asked : Asked) (given : List (List ℕ)) (answer : A)
    → IsRuled (rule dial) link.rule t → AnsweredOn look link.wire link.rule link.ended t id (request_fields asked.path authority) asked.messages given answer → IsCarried look (rule dial) authority asked given answer
carried look rule link dial None id authority asked given answer r a = absurd a
carried look rule link dial (Some t) id authority asked given answer r a = record {
  sent = a.talk.sent;
  waiting = t.conn.state.queued;
  received = a.talk.received;
  id = id;
  heard_is = heard nothing (events_at id a.talk.received);
  ended = link.ended t.link;
  meets = (r a.talk.sent a.talk.received).1 a.talk.meets;
  call = a.call;
  shows = a.shows;
  front = a.front;
}

-- by a rule that is the same
pub carried-under : {A : Type 0} (look : Bool → Heard → Option A) (old new : List ℕ → List ℕ → Type 0) (authority : List ℕ) (asked : Asked) (given : List (List ℕ)) (answer : A) → SameRule old new → IsCarried look new authority asked given answer → IsCarried look old authority asked given answer
carried-under look old new authority asked given answer same e = record {
  sent = e.sent;
  waiting = e.waiting;
  received = e.received;
  id = e.id;
  heard_is = e.heard_is;
  ended = e.ended;
  meets = (same e.sent e.received).1 e.meets;
  call = e.call;
  shows = e.shows;
  front = e.front;
}

pub by-always : {A : Type 0} (look : Bool → Heard → Option A) (rule : List ℕ → List ℕ → Type 0) (authority : List ℕ) (asked : Asked) (given : List (List ℕ)) (answer : A) (IsSuch : Asked → Heard → Type 0) → Always rule authority IsSuch → (e : IsCarried look rule authority asked given answer) → IsSuch asked e.heard_is
by-always look rule authority asked given answer IsSuch all e = all e.sent e.waiting e.received e.id asked e.heard_is e.meets e.call

-- ---- an open call goes on

pub next-on : {L : Type 0} (link : links.Ghosts L) (old new : Option (TransportOf L)) (item : StreamItem) (id : ℕ) (authority : List ℕ) (asked : Asked) (given : List (List ℕ))
    → NextAsksOn link.wire link.rule link.ended old new item → AsksOn link.wire link.rule old id (request_fields asked.path authority) asked.messages given
    → AnsweredOn (item_behind (length given)) link.wire link.rule link.ended new id (request_fields asked.path authority) asked.messages given item
    × (is_message item ≡ true → AsksOn link.wire link.rule new id (request_fields asked.path authority) asked.messages (given_after item given))
next-on link None new item id authority asked given n a = absurd n
next-on link (Some t) None item id authority asked given n a = absurd n
next-on link (Some t) (Some u) item id authority asked given n a = n id (request_fields asked.path authority) asked.messages given a

-- ---- what an item tells of all that was heard

by-zero : (b : Bool) (code : ℕ) (cut : Bool) (message : List ℕ) → Some (cond b (StreamItems.Success cut) (StreamItems.Status code)) ≡ Some (StreamItems.Message message) → ⊥
by-zero true code cut message e = absurd cc
by-zero false code cut message e = absurd cc

none-message : (end : Option End) (cut ended : Bool) (message : List ℕ) → item_at_end end cut ended ≡ Some (StreamItems.Message message) → ⊥
none-message None cut true message e = absurd cc
none-message None cut false message e = absurd cc
none-message (Some Ends.Compressed) cut ended message e = absurd cc
none-message (Some Ends.TooLarge) cut ended message e = absurd cc
none-message (Some Ends.NoStatus) cut ended message e = absurd cc
none-message (Some (Ends.Status code)) cut ended message e = by-zero (code == 0) code cut message e

message-in : (m message : List ℕ) → Some (StreamItems.Message m) ≡ Some (StreamItems.Message message) → m ≡ message
message-in m message e = cc

is-front : (more : List (List ℕ)) (end : Option End) (cut ended : Bool) (message : List ℕ) → item_by more end cut ended ≡ Some (StreamItems.Message message) → (rest : List (List ℕ)) × (more ≡ message ∷ rest)
is-front [] end cut ended message e = absurd (none-message end cut ended message e)
is-front (m ∷ rest) end cut ended message e = (rest, ap (λ x. x ∷ rest) (message-in m message e))

at-front : {A : Type 0} (P : A → Type 0) (xs ys : List A) (x : A) → AllByRecursion P (xs ++ x ∷ ys) → P x
at-front P [] ys x all = all.0
at-front P (y ∷ xs) ys x all = at-front P xs ys x all.1

-- a message that was shown tells one of the states
pub state-shown : (rule : List ℕ → List ℕ → Type 0) (authority : List ℕ) (asked : Asked) (given : List (List ℕ)) (message : List ℕ) (IsSuch : Operation → Type 0)
    → (e : IsCarried (item_behind (length given)) rule authority asked given (StreamItems.Message message)) → IfStates IsSuch e.heard_is → IfOk (operation_by message) IsSuch
state-shown rule authority asked given message IsSuch e all =
    let more = e.front.0 in
    let behind : drop (length given) e.heard_is.messages ≡ more = ap (λ (x : List (List ℕ)). drop (length given) x) e.front.1 ∙ drop_front given more in
    let cut = not (length e.heard_is.rest == 0) in
    let front = is-front more e.heard_is.end cut e.ended message (ap (λ (x : List (List ℕ)). item_by x e.heard_is.end cut e.ended) (sym behind) ∙ e.shows) in
    let messages : e.heard_is.messages ≡ given ++ message ∷ front.0 = e.front.1 ∙ ap (λ (x : List (List ℕ)). given ++ x) front.1 in
    at-front (λ x. IfOk (operation_by x) IsSuch) given front.0 message (subst (λ (x : List (List ℕ)). AllByRecursion (λ y. IfOk (operation_by y) IsSuch) x) messages all)

-- ---- an answer that is whole

not-false : (b : Bool) → not b ≡ false → b ≡ true
not-false true e = refl
not-false false e = absurd cc

none-of : {A : Type 0} (xs : List A) → length xs ≡ 0 → xs ≡ []
none-of [] e = refl
none-of (x ∷ xs) e = absurd cc

empty-by : {A : Type 0} (xs : List A) → not (length xs == 0) ≡ false → xs ≡ []
empty-by xs e = none-of xs (eqb-true (length xs) 0 (not-false (length xs == 0) e))

status-by : (b : Bool) (code : ℕ) (cut : Bool) → Some (cond b (StreamItems.Success cut) (StreamItems.Status code)) ≡ Some (StreamItems.Success false) → (b ≡ true) × (cut ≡ false)
status-by true code cut e = (refl, cc)
status-by false code cut e = absurd cc

ends-well : (end : Option End) (cut ended : Bool) → item_at_end end cut ended ≡ Some (StreamItems.Success false) → (end ≡ Some (Ends.Status 0)) × (cut ≡ false)
ends-well None true true e = absurd cc
ends-well None false true e = absurd cc
ends-well None cut false e = absurd cc
ends-well (Some Ends.Compressed) cut ended e = absurd cc
ends-well (Some Ends.TooLarge) cut ended e = absurd cc
ends-well (Some Ends.NoStatus) cut ended e = absurd cc
ends-well (Some (Ends.Status code)) cut ended e =
    let two = status-by (code == 0) code cut e in
    (ap (λ n. Some (Ends.Status n)) (eqb-true code 0 two.0), two.1)

whole-by : (more : List (List ℕ)) (end : Option End) (cut ended : Bool) → item_by more end cut ended ≡ Some (StreamItems.Success false) → (more ≡ []) × ((end ≡ Some (Ends.Status 0)) × (cut ≡ false))
whole-by [] end cut ended e = (refl, ends-well end cut ended e)
whole-by (m ∷ more) end cut ended e = absurd cc

pub whole-shown : (rule : List ℕ → List ℕ → Type 0) (authority : List ℕ) (asked : Asked) (given : List (List ℕ)) (text : List ℕ) (IsSuch : List ℕ → Type 0)
    → (e : IsCarried (item_behind (length given)) rule authority asked given (StreamItems.Success false)) → joined [] (map came_of given ++ Ok (StreamItems.Success false) ∷ []) ≡ Ok text → IfJoined IsSuch e.heard_is → IsSuch text
whole-shown rule authority asked given text IsSuch e joins all =
    let more = e.front.0 in
    let behind : drop (length given) e.heard_is.messages ≡ more = ap (λ (x : List (List ℕ)). drop (length given) x) e.front.1 ∙ drop_front given more in
    let cut = not (length e.heard_is.rest == 0) in
    let whole = whole-by more e.heard_is.end cut e.ended (ap (λ (x : List (List ℕ)). item_by x e.heard_is.end cut e.ended) (sym behind) ∙ e.shows) in
    let messages : e.heard_is.messages ≡ given = e.front.1 ∙ (ap (λ (x : List (List ℕ)). given ++ x) whole.0 ∙ append-nil given) in
    let is : joined [] (map came_of e.heard_is.messages ++ Ok (StreamItems.Success false) ∷ []) ≡ Ok text = ap (λ (x : List (List ℕ)). joined [] (map came_of x ++ Ok (StreamItems.Success false) ∷ [])) messages ∙ joins in
    subst (λ (r : Result (List ℕ) CallFault). IfOk r IsSuch) is (all whole.1.0 (empty-by e.heard_is.rest whole.1.1))
