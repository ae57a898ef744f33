-- What the calls of a farm's client do to what it tells and vouches for.
use Rattle.std.specs.Prelude.{◌≡◌, ◌≢◌, ◌⊎◌, ℕ, ◌≤◌, List, [], ◌∷◌, ◌++◌, Option, None, Some, Result, IfErr, Contains, map}
use Rattle.rx_base.specs.Digests.{digest_of}
use Rattle.rx_base.specs.Told.{Told}
use Rattle.rx_base.specs.declared.digests.Digest.{Digest}
use Rattle.rx_messages.specs.declared.results.ActionResult.{ActionResult}
use Rattle.rx_world.specs.declared.call_faults.CallFault.{CallFault}
use Rattle.rx_world.specs.declared.call_faults.CallFault.TheVariants.{BadMessage, BlobRefused, Compressed, Cut, Link, NoMemory, NoStatus, Protocol, Status, TooLarge}
use Rattle.rx_world.specs.declared.commands.Command.{Command}
use Rattle.rx_world.specs.declared.outcomes.Outcome.{Outcome}
use Rattle.rx_world.specs.declared.versions.Dialect.{Dialect}
use Rattle.rx_world.specs.Causes.{Rose}
use Rattle.rx_exec_messages.specs.declared.exchanges.Exchange.{Exchange}
use Rattle.rx_exec_messages.specs.declared.exchanges.NamedBlob.{NamedBlob}
use Rattle.rx_exec_messages.specs.declared.executions.ExecuteResponse.{ExecuteResponse}
use Rattle.rx_results.specs.Agreement.{Agrees}

-- the count didn't fall, and rose for each fault but want of memory
pub record HasCallCause {T : Type 0} (before now : ℕ) (result : Result T CallFault) : Type 0 where
  pub later : before ≤ now
  pub failed : IfErr result (λ fault. fault ≢ NoMemory → Rose before now)

-- one exchange more is told
abbrev pub AddsCall : Option (List Exchange) → Option (List Exchange) → Exchange → Type 0
AddsCall old new exchange = Told old new (λ x y. y ≡ x ++ exchange ∷ [])

-- what is vouched for, that the client is genuine, and its farm's dialect stay
pub record Stays {C : Type 0} (vouches : C → Digest → Command → Outcome → Type 0) (genuine : C → Type 0) (dialect : C → Dialect) (old new : C) : Type 0 where
  pub triples : (digest : Digest) (command : Command) (outcome : Outcome) → vouches old digest command outcome → vouches new digest command outcome
  pub still_genuine : genuine old → genuine new
  pub same_dialect : dialect new ≡ dialect old

-- a result that is answered for a digest agrees with each outcome that is vouched for there
abbrev pub AgreesWithAll : (Digest → List ℕ) → (Digest → Command → Outcome → Type 0) → Digest → ActionResult → Type 0
AgreesWithAll blob vouched digest result = (command : Command) (outcome : Outcome) → vouched digest command outcome → Agrees blob command outcome result

-- the same of the result that a response has; one without a result agrees with no outcome
abbrev pub ResultAgrees : (Digest → List ℕ) → (Digest → Command → Outcome → Type 0) → Digest → Option ActionResult → Type 0
ResultAgrees blob vouched digest (Some result) = AgreesWithAll blob vouched digest result
ResultAgrees blob vouched digest None = (command : Command) (outcome : Outcome) → vouched digest command outcome → ⊥

abbrev pub ResponseAgrees : (Digest → List ℕ) → (Digest → Command → Outcome → Type 0) → Digest → ExecuteResponse → Type 0
ResponseAgrees blob vouched digest response = ResultAgrees blob vouched digest response.result

-- an empty name, or one of an operation that runs this action
abbrev pub IsNamedFor : (List ℕ → Digest) → Digest → List ℕ → Type 0
IsNamedFor operation action name = (name ≡ []) ⊎ (operation name ≡ action)

-- each text is the blob of its digest, and has that digest
pub record AreBlobs (blob : Digest → List ℕ) (digests : List Digest) (texts : List (List ℕ)) : Type 0 where
  pub texts_are : texts ≡ map blob digests
  pub own : map digest_of texts ≡ digests

-- some items of a list, in its order
abbrev pub IsPartOf : {A : Type 0} → List A → List A → Type 0
IsPartOf [] whole = Unit {0}
IsPartOf (x ∷ xs) [] = ⊥
IsPartOf (x ∷ xs) (y ∷ ys) = ((x ≡ y) × IsPartOf xs ys) ⊎ IsPartOf (x ∷ xs) ys

-- a blob that was refused is one of these
abbrev pub RefusesOneOf : List Digest → CallFault → Type 0
RefusesOneOf digests (BlobRefused digest code) = Contains digests digest
RefusesOneOf digests (Status code) = Unit {0}
RefusesOneOf digests Link = Unit {0}
RefusesOneOf digests (Protocol code) = Unit {0}
RefusesOneOf digests Compressed = Unit {0}
RefusesOneOf digests TooLarge = Unit {0}
RefusesOneOf digests NoStatus = Unit {0}
RefusesOneOf digests (BadMessage at) = Unit {0}
RefusesOneOf digests Cut = Unit {0}
RefusesOneOf digests NoMemory = Unit {0}

abbrev pub digests_of : List NamedBlob → List Digest
digests_of blobs = map (λ (blob : NamedBlob). blob.digest) blobs
