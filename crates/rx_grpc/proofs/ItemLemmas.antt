-- Items of a streamed answer: what is shown stays, and is what the reader hands out.
use Rattle.std.proofs.Common.{◌≡◌, ℕ, Bool, true, false, not, ◌==◌, zero, suc, List, [], ◌∷◌, ◌++◌, length, drop, refl, sym, ap, ◌∙◌, append-nil, Option, None, Some}
use Rattle.rx_h2conn.specs.Session.{Event}
use Rattle.rx_grpc.specs.declared.end.End.{End}
use Rattle.rx_grpc.specs.declared.end.End.TheVariants as Ends
use Rattle.rx_grpc.specs.declared.stream_item.StreamItem.{StreamItem}
use Rattle.rx_grpc.specs.Answer.{unary, unary_by}
use Rattle.rx_grpc.specs.Heard.{Heard, nothing, heard}
use Rattle.rx_grpc.specs.Item.{item, item_at_end, item_by, item_behind}
use Rattle.rx_grpc.specs.Uses.{ShownStays, front}
use Rattle.rx_grpc.proofs.UseLemmas.{front_heard, heard_append, heard_stopped, unary_ended, unary_stays}

-- messages that were handed out stand before the others
pub drop_front : {A : Type 0} (given rest : List A) → drop (length given) (given ++ rest) ≡ rest
drop_front [] rest = refl
drop_front (x ∷ given) rest = drop_front given rest

pub drop_more : {A : Type 0} (n : ℕ) (xs ys rest : List A) (x : A) → drop n xs ≡ x ∷ rest → drop n (xs ++ ys) ≡ x ∷ rest ++ ys
drop_more zero xs ys rest x is = ap (λ z. z ++ ys) is
drop_more (suc n) [] ys rest x is = absurd cc
drop_more (suc n) (y ∷ xs) ys rest x is = drop_more n xs ys rest x is

-- later events only add messages
pub messages_later : (h : Heard) (b : List Event) → (more : List (List ℕ)) × ((heard h b).messages ≡ h.messages ++ more)
messages_later h b =
    let bare : Heard = record h { messages = [] } in
    let same : front h.messages bare ≡ h = ap (λ (x : List (List ℕ)). record h { messages = x }) (append-nil h.messages) in
    ((heard bare b).messages, ap (λ (x : Heard). (heard x b).messages) (sym same) ∙ ap (λ (x : Heard). x.messages) (front_heard h.messages bare b))

pub end_shown : (o : Option End) (cut ended : Bool) (x : StreamItem) → item_at_end o cut false ≡ Some x → (item_at_end o cut ended ≡ Some x) × ((o ≡ None) → ⊥)
end_shown None cut ended x is = absurd cc
end_shown (Some e) cut ended x is = (is, λ bad. cc)

-- an item that a front of the events shows
pub item_kept : (n : ℕ) (h later : Heard) (ms more : List (List ℕ)) (ended : Bool) (x : StreamItem) → drop n h.messages ≡ ms → later.messages ≡ h.messages ++ more → ((h.end ≡ None → ⊥) → later ≡ h) → item_by ms h.end (not (length h.rest == 0)) false ≡ Some x → item_behind n ended later ≡ Some x
item_kept n h later (m ∷ ms) more ended x cut grows stops is =
    let all : drop n later.messages ≡ m ∷ ms ++ more = ap (drop n) grows ∙ drop_more n h.messages more ms m cut in
    ap (λ (z : List (List ℕ)). item_by z later.end (not (length later.rest == 0)) ended) all ∙ is
item_kept n h later [] more ended x cut grows stops is =
    let shown = end_shown h.end (not (length h.rest == 0)) ended x is in
    ap (item_behind n ended) (stops shown.1) ∙ (ap (λ (z : List (List ℕ)). item_by z h.end (not (length h.rest == 0)) ended) cut ∙ shown.0)

pub item_stays : (n : ℕ) (h : Heard) (a b : List Event) → ShownStays (item_behind n) h a b
item_stays n h a b ended x is =
    let first = heard h a in
    let all = heard_append h a b in
    let (more, grows) = messages_later first b in
    ap (item_behind n ended) all ∙ item_kept n first (heard first b) (drop n first.messages) more ended x refl grows (heard_stopped first b) is

-- How what is shown of all that was heard, look, is what the reader shows of what it has, view, where so many messages were
-- handed out.
pub record IsLook {A : Type 0} (look view : Bool → Heard → Option A) (place : ℕ) : Type 0 where
  pub same : (given : List (List ℕ)) (h : Heard) (ended : Bool) → length given ≡ place → look ended (front given h) ≡ view ended h
  pub stays : (a b : List Event) → ShownStays look nothing a b
  pub total : (h : Heard) → view true h ≡ None → ⊥
  pub early : (h : Heard) (x : A) (ended : Bool) → view false h ≡ Some x → view ended h ≡ Some x

pub unary_total : (o : Option End) (h : Heard) → unary_by o true h ≡ None → ⊥
unary_total None h is = absurd cc
unary_total (Some (Ends.Status code)) h is = absurd cc
unary_total (Some Ends.Compressed) h is = absurd cc
unary_total (Some Ends.TooLarge) h is = absurd cc
unary_total (Some Ends.NoStatus) h is = absurd cc

pub item_total : (ms : List (List ℕ)) (o : Option End) (cut : Bool) → item_by ms o cut true ≡ None → ⊥
item_total (m ∷ ms) o cut is = absurd cc
item_total [] None cut is = absurd cc
item_total [] (Some e) cut is = absurd cc

pub item_early : (ms : List (List ℕ)) (o : Option End) (cut ended : Bool) (x : StreamItem) → item_by ms o cut false ≡ Some x → item_by ms o cut ended ≡ Some x
item_early (m ∷ ms) o cut ended x is = is
item_early [] o cut ended x is = (end_shown o cut ended x is).0

pub unary_same : (given : List (List ℕ)) (h : Heard) (ended : Bool) → length given ≡ 0 → unary ended (front given h) ≡ unary ended h
unary_same [] h ended none = refl
unary_same (m ∷ given) h ended none = absurd cc

pub unary_look : IsLook unary unary 0
unary_look = record {
  same = unary_same;
  stays = unary_stays nothing;
  total = λ h. unary_total h.end h;
  early = λ h x ended is. (unary_ended h.end h x ended is).0;
}

pub item_same : (place : ℕ) (given : List (List ℕ)) (h : Heard) (ended : Bool) → length given ≡ place → item_behind place ended (front given h) ≡ item ended h
item_same place given h ended is = rw (sym is) (ap (λ (z : List (List ℕ)). item_by z h.end (not (length h.rest == 0)) ended) (drop_front given h.messages))

pub item_look : (place : ℕ) → IsLook (item_behind place) item place
item_look place = record {
  same = item_same place;
  stays = item_stays place nothing;
  total = λ h. item_total h.messages h.end (not (length h.rest == 0));
  early = λ h x ended is. item_early h.messages h.end (not (length h.rest == 0)) ended x is;
}
