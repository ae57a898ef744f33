-- The text that comes with a status ("Status-Message" of gRPC over HTTP/2), and its details.
use Rattle.std.specs.Prelude.{◌≡◌, ℕ, List, [], filter, Option, None, Some}
use Rattle.percent_encoding.specs.Percent.{percent_decode}
use Rattle.rx_h2conn.specs.Session.{Reading}
use Rattle.rx_world.specs.Links.{Wire}
use Rattle.rx_grpc.specs.Heard.{nothing, heard}
use Rattle.rx_grpc.specs.Moves.{is_for}
use Rattle.rx_grpc.specs.Conversation.{Conversation}
use Rattle.rx_grpc.specs.Transport.{Opened, TransportOf}

-- What was heard of the answer at this stream has this text and these details, as they were sent: those of the list which ended it. The
-- text is empty where the list had none, or hasn't come; there are no details then, nor where the status is 0.
pub record HasText (wire : Option Wire) (rule : List ℕ → List ℕ → Type 0) (conn : Reading) (id : ℕ) (text : List ℕ) (details : Option (List ℕ)) : Type 0 where
  pub talk : Conversation wire rule conn
  pub text_is : text ≡ (heard nothing (filter (is_for id) talk.handed)).status_text
  pub details_are : details ≡ (heard nothing (filter (is_for id) talk.handed)).details

-- the same, and the text's escapes are read as bytes
abbrev pub IsTextOf : Option Wire → (List ℕ → List ℕ → Type 0) → Reading → ℕ → List ℕ → Option (List ℕ) → Type 0
IsTextOf wire rule conn id text details = (sent : List ℕ) × HasText wire rule conn id sent details × (text ≡ percent_decode sent)

-- a transport keeps those of the answer at this stream
abbrev pub KeepsText : {L : Type 0} → (L → Option Wire) → (L → List ℕ → List ℕ → Type 0) → Option (TransportOf L) → ℕ → Type 0
KeepsText wire rule None id = ⊥
KeepsText wire rule (Some t) id = IsTextOf (wire t.link) (rule t.link) t.conn id t.text t.details

-- and those of the streamed answer that was open
abbrev pub KeepsTextOf : {L : Type 0} → (L → Option Wire) → (L → List ℕ → List ℕ → Type 0) → Option Opened → TransportOf L → Type 0
KeepsTextOf wire rule None t = ⊥
KeepsTextOf wire rule (Some o) t = IsTextOf (wire t.link) (rule t.link) t.conn o.id t.text t.details

abbrev pub KeepsTextOn :
    {L : Type 0} → (L → Option Wire) → (L → List ℕ → List ℕ → Type 0) → Option (TransportOf L) → Option (TransportOf L) → Type 0
KeepsTextOn wire rule None new = ⊥
KeepsTextOn wire rule (Some t) None = ⊥
KeepsTextOn wire rule (Some t) (Some u) = KeepsTextOf wire rule t.opened u

-- the text that is kept; without a transport it is empty
abbrev pub text_in : {L : Type 0} → Option (TransportOf L) → List ℕ
text_in None = []
text_in (Some t) = t.text

-- and the details, as they were sent
abbrev pub details_in : {L : Type 0} → Option (TransportOf L) → Option (List ℕ)
details_in None = None
details_in (Some t) = t.details
