-- A channel: calls over a link that is kept from one to the next, or over a new one.
use Rattle.std.specs.Prelude.{◌≡◌, ◌⊎◌, ◌≤◌, ℕ, Bool, true, false, List, [], if◌then◌else◌, Option, None, Some, Result, IsErrOf}
use Rattle.std.specs.Borrow.{Bor}
use Rattle.rx_h2conn.specs.Open.{next_id}
use Rattle.rx_world.specs.Causes.{Rose}
use Rattle.rx_world.specs.Links.{Wire, SameRule}
use Rattle.rx_grpc.specs.declared.answer.Answer.{Answer}
use Rattle.rx_grpc.specs.declared.transfer_fault.TransferFault.{TransferFault}
use Rattle.rx_grpc.specs.declared.transfer_fault.TransferFault.TheVariants.{Link, Protocol, NoMemory}
use Rattle.rx_grpc.specs.Faults.{IsOther, FaultIs}
use Rattle.rx_grpc.specs.Answer.{unary}
use Rattle.rx_grpc.specs.Shown.{IsOver}
use Rattle.rx_grpc.specs.Transport.{TransportOf, IsStarted, takes}

pub record ChannelOf (D L : Type 0) : Type 0 where
  pub dial : D
  pub transport : Option (TransportOf L)  -- of the last call, also where that failed
  pub authority : List ℕ

-- The next call is made on the connection that is kept, or else on a new one: this is the value of the first, where it takes a
-- stream, or the second value.
abbrev pub kept_or : {L A : Type 0} → Option (TransportOf L) → (TransportOf L → A) → A → A
kept_or None value other = other
kept_or (Some t) value other = if takes t then value t else other

abbrev pub is_kept : {L : Type 0} → Option (TransportOf L) → Bool
is_kept old = kept_or old (λ t. true) false

-- its stream: the first of a new connection is 1
abbrev pub stream_for : {L : Type 0} → Option (TransportOf L) → ℕ
stream_for old = kept_or old (λ t. next_id t.conn.state) 1

-- what its link had carried before, where the link tells it: nothing on a new one
abbrev pub blank : Option Wire → Option Wire
blank None = None
blank (Some wire) = Some (record { sent = []; received = [] })

abbrev pub wire_before : {L : Type 0} → (L → Option Wire) → Option (TransportOf L) → Option Wire → Option Wire
wire_before wire old now = kept_or old (λ t. wire t.link) (blank now)

-- how often its link had failed before
abbrev pub faults_before : {L : Type 0} → (L → ℕ) → Option (TransportOf L) → ℕ
faults_before faults old = kept_or old (λ t. faults t.link) 0

-- The call's stream was opened, and the link has carried nothing since.
pub record Opens {L : Type 0} (wire : L → Option Wire) (rule : L → List ℕ → List ℕ → Type 0) (ended : L → Bool) (faults : L → ℕ) (old : Option (TransportOf L)) (t : TransportOf L) (id : ℕ) : Type 0 where
  pub stream : id ≡ stream_for old
  pub before : wire t.link ≡ wire_before wire old (wire t.link)
  pub same_faults : faults t.link ≡ faults_before faults old
  pub started : IsStarted (wire t.link) (rule t.link) (ended t.link) t.conn id
  pub alive : t.alive ≡ false
  pub closed : t.opened ≡ None

abbrev pub OpensOn :
    {L : Type 0} → (L → Option Wire) → (L → List ℕ → List ℕ → Type 0) → (L → Bool) → (L → ℕ)
    → Option (TransportOf L) → Option (TransportOf L) → ℕ → Type 0
OpensOn wire rule ended faults old None id = ⊥
OpensOn wire rule ended faults old (Some t) id = Opens wire rule ended faults old t id

-- The call's stream on the link of the call shows this answer.
abbrev pub Answers :
    {L : Type 0} → (L → Option Wire) → (L → List ℕ → List ℕ → Type 0) → (L → Bool)
    → Option (TransportOf L) → Option (TransportOf L) → Answer → Type 0
Answers wire rule ended old None answer = ⊥
Answers wire rule ended old (Some t) answer =
    IsOver unary (wire t.link) (rule t.link) (ended t.link) t.conn (stream_for old) t.alive answer

-- The bytes of that link stand for the fault, if it is one of bytes.
abbrev pub Fails :
    {L : Type 0} → (L → Option Wire) → (L → List ℕ → List ℕ → Type 0)
    → Option (TransportOf L) → Option (TransportOf L) → TransferFault → Type 0
Fails wire rule old None fault = IsOther fault
Fails wire rule old (Some t) fault =
    FaultIs unary 268435456 fault (wire_before wire old (wire t.link)) (wire t.link) (rule t.link) t.conn (stream_for old)

-- the count of the dial rose, or that of the link
abbrev pub RoseOn : {L : Type 0} → (L → ℕ) → ℕ → Option (TransportOf L) → Type 0
RoseOn faults before None = ⊥
RoseOn faults before (Some t) = Rose before (faults t.link)

pub record HasCauseOn {L T : Type 0} (before now : ℕ) (faults : L → ℕ) (old new : Option (TransportOf L)) (result : Result T TransferFault) : Type 0 where
  pub later : before ≤ now
  pub failed : IsErrOf result Link → Rose before now ⊎ RoseOn faults (faults_before faults old) new

-- the rule of the link is that of the dial
abbrev pub IsRuled : {L : Type 0} → (List ℕ → List ℕ → Type 0) → (L → List ℕ → List ℕ → Type 0) → Option (TransportOf L) → Type 0
IsRuled dial rule None = Unit {0}
IsRuled dial rule (Some t) = SameRule dial (rule t.link)

-- the rule of the dial and the name of the farm stay
pub record Keeps {D L : Type 0} (dial_rule : D → List ℕ → List ℕ → Type 0) (old new : ChannelOf D L) : Type 0 where
  pub same_rule : SameRule (dial_rule old.dial) (dial_rule new.dial)
  pub authority : new.authority ≡ old.authority

-- after a fault other than want of memory no call is made on that link
abbrev pub Stops : {L : Type 0} → Option (TransportOf L) → TransferFault → Type 0
Stops new Link = is_kept new ≡ false
Stops new (Protocol code) = is_kept new ≡ false
Stops new NoMemory = Unit {0}

-- the code gives the link of the last call
abbrev pub IsLinkOf : {L : Type 0} → Option (TransportOf L) → Option (Bor L) → Type 0
IsLinkOf None link = link ≡ None
IsLinkOf (Some t) None = ⊥
IsLinkOf (Some t) (Some link) = link.now ≡ t.link

-- the link that can take another call, with its connection
abbrev pub rested : {L : Type 0} → Option (TransportOf L) → Option (TransportOf L)
rested None = None
rested (Some t) = if t.alive then Some t else None
