-- The text that comes with a status, and its details, by what a call has heard.
use Rattle.std.proofs.Common.{◌≡◌, Bool, List, ℕ, filter, refl, sym, ap, subst, ◌∙◌, Option, None, Some, Result, Ok, Err, OnOk}
use Rattle.percent_encoding.specs.Percent.{percent_decode}
use Rattle.rx_h2conn.specs.Session.{Reading}
use Rattle.rx_world.specs.Links.{Wire}
use Rattle.rx_grpc.specs.declared.answer.Answer.{Answer}
use Rattle.rx_grpc.specs.declared.answer.Answer.TheVariants as answers
use Rattle.rx_grpc.specs.declared.open_call.OpenCall.{OpenCall}
use Rattle.rx_grpc.specs.declared.stream_item.StreamItem.{StreamItem}
use Rattle.rx_grpc.specs.declared.stream_item.StreamItem.TheVariants as items
use Rattle.rx_grpc.specs.declared.transfer_fault.TransferFault.{TransferFault}
use Rattle.rx_grpc.specs.Answer.{after_answer}
use Rattle.rx_grpc.specs.Channel.{OpensOn, stream_for}
use Rattle.rx_grpc.specs.Conversation.{IsOpen}
use Rattle.rx_grpc.specs.Heard.{Heard, heard, nothing}
use Rattle.rx_grpc.specs.Item.{after_item}
use Rattle.rx_grpc.specs.Moves.{is_for}
use Rattle.rx_grpc.specs.StatusText.{HasText, IsTextOf, KeepsTextOf}
use Rattle.rx_grpc.specs.Transport.{Opened, TransportOf, opened_by}

-- a call that is open has those of what was handed out
pub text_heard : (wire : Option Wire) (rule : List ℕ → List ℕ → Type 0) (ended : Bool) (conn : Reading) (o : OpenCall) (id : ℕ) (text : List ℕ) (details : Option (List ℕ))
    → IsOpen wire rule ended conn o → id ≡ o.call.id → text ≡ o.call.answers.status_text → details ≡ o.call.answers.details
    → HasText wire rule conn id text details
text_heard wire rule ended conn o id text details waits same is are = record {
  talk = waits.hears.talk;
  text_is = is ∙ (ap (λ (h : Heard). h.status_text) waits.hears.heard_is
      ∙ ap (λ (i : ℕ). (heard nothing (filter (is_for i) waits.hears.talk.handed)).status_text) (sym same));
  details_are = are ∙ (ap (λ (h : Heard). h.details) waits.hears.heard_is
      ∙ ap (λ (i : ℕ). (heard nothing (filter (is_for i) waits.hears.talk.handed)).details) (sym same));
}

-- what is handed out leaves them
pub answer_leaves : (answer : Option Answer) (h : Heard) → ((after_answer answer h).status_text ≡ h.status_text) × ((after_answer answer h).details ≡ h.details)
answer_leaves None h = (refl, refl)
answer_leaves (Some (answers.Message message)) h = (refl, refl)
answer_leaves (Some (answers.Status code)) h = (refl, refl)
answer_leaves (Some answers.Compressed) h = (refl, refl)
answer_leaves (Some answers.TooLarge) h = (refl, refl)
answer_leaves (Some answers.NoStatus) h = (refl, refl)
answer_leaves (Some answers.BadMessage) h = (refl, refl)

pub item_leaves : (item : Option StreamItem) (h : Heard) → ((after_item item h).status_text ≡ h.status_text) × ((after_item item h).details ≡ h.details)
item_leaves None h = (refl, refl)
item_leaves (Some (items.Message message)) h = (refl, refl)
item_leaves (Some (items.Success cut)) h = (refl, refl)
item_leaves (Some (items.Status code)) h = (refl, refl)
item_leaves (Some items.Compressed) h = (refl, refl)
item_leaves (Some items.TooLarge) h = (refl, refl)
item_leaves (Some items.NoStatus) h = (refl, refl)
item_leaves (Some items.LinkEnd) h = (refl, refl)

-- what holds whatever the result
pub on_done : {T E : Type 0} {P : Type 0} (result : Result T E) → P → OnOk result P
on_done (Ok value) holds = holds
on_done (Err fault) holds = tt

-- ---- kept by a transport

-- read as bytes
pub text_read : (wire : Option Wire) (rule : List ℕ → List ℕ → Type 0) (conn : Reading) (now id : ℕ) (sent text : List ℕ) (told details : Option (List ℕ))
    → HasText wire rule conn now sent told → now ≡ id → text ≡ percent_decode sent → details ≡ told → IsTextOf wire rule conn id text details
text_read wire rule conn now id sent text told details has same read are =
    (sent, subst (λ (x : Option (List ℕ)). HasText wire rule conn id sent x) (sym are) (subst (λ (i : ℕ). HasText wire rule conn i sent told) same has), read)

-- of a call whose stream was opened on a channel
pub text_of_call : {A L : Type 0} (wire : L → Option Wire) (rule : L → List ℕ → List ℕ → Type 0) (ended : L → Bool) (faults : L → ℕ)
    (old now : Option (TransportOf L)) (u : TransportOf L) (id : ℕ) (result : Result A TransferFault)
    → OpensOn wire rule ended faults old now id → OnOk result (IsTextOf (wire u.link) (rule u.link) u.conn id u.text u.details)
    → OnOk result (IsTextOf (wire u.link) (rule u.link) u.conn (stream_for old) u.text u.details)
text_of_call wire rule ended faults old (Some t) u id (Ok x) opens text =
    subst (λ (i : ℕ). IsTextOf (wire u.link) (rule u.link) u.conn i u.text u.details) opens.stream text
text_of_call wire rule ended faults old None u id (Ok x) opens text = absurd opens
text_of_call wire rule ended faults old now u id (Err e) opens text = tt

-- of an item of the call that was open
pub text_next : {L : Type 0} (wire : L → Option Wire) (rule : L → List ℕ → List ℕ → Type 0) (opened : Option Opened) (u : TransportOf L) (o n : OpenCall)
    → opened ≡ Some (opened_by o) → HasText (wire u.link) (rule u.link) u.conn n.call.id n.call.answers.status_text n.call.answers.details → n.call.id ≡ o.call.id
    → u.text ≡ percent_decode n.call.answers.status_text → u.details ≡ n.call.answers.details → KeepsTextOf wire rule opened u
text_next wire rule opened u o n is has same read are =
    subst (λ (x : Option Opened). KeepsTextOf wire rule x u) (sym is)
    (text_read (wire u.link) (rule u.link) u.conn n.call.id o.call.id n.call.answers.status_text u.text n.call.answers.details u.details has same read are)
