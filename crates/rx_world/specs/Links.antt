-- What went over a connection, and the rule that it meets.
use Rattle.std.specs.Prelude.{◌≡◌, ℕ, Bool, false, ◌&&◌, not, ◌==◌, List, [], ◌++◌, take, Option, None, Some, Result, Ok, Err}

-- all bytes that were sent, and all that were received
pub record Wire : Type 0 where
  pub sent : List ℕ
  pub received : List ℕ

-- A link that tells its bytes goes on telling them, and one that doesn't never does.
abbrev pub Goes : Option Wire → Option Wire → (Wire → Wire) → Type 0
Goes None None step = Unit {0}
Goes None (Some new) step = ⊥
Goes (Some old) None step = ⊥
Goes (Some old) (Some new) step = new ≡ step old

abbrev pub sent_by : {E : Type 0} → Result ℕ E → List ℕ → Wire → Wire
sent_by (Ok count) piece wire = record wire { sent = wire.sent ++ take count piece }
sent_by (Err e) piece wire = wire

abbrev pub received_by : {E : Type 0} → Result ℕ E → List ℕ → Wire → Wire
received_by (Ok count) into wire = record wire { received = wire.received ++ take count into }
received_by (Err e) into wire = wire

-- nothing came into a buffer that had room
abbrev pub is_end : {E : Type 0} → Result ℕ E → ℕ → Bool
is_end (Ok count) room = (count == 0) && not (room == 0)
is_end (Err e) room = false

-- two relations of the bytes sent and the bytes received that are one
abbrev pub SameRule : (List ℕ → List ℕ → Type 0) → (List ℕ → List ℕ → Type 0) → Type 0
SameRule old new = (sent received : List ℕ) → (old sent received → new sent received) × (new sent received → old sent received)

-- The bytes meet the rule; where they aren't told, every two lists do.
abbrev pub Meets : Option Wire → (List ℕ → List ℕ → Type 0) → Type 0
Meets None rule = (sent received : List ℕ) → rule sent received
Meets (Some wire) rule = rule wire.sent wire.received

-- nothing was sent or received on it, it hasn't ended and hasn't failed
pub record IsNew (wire : Option Wire) (ended : Bool) (faults : ℕ) : Type 0 where
  pub blank : Goes wire wire (λ w. record { sent = []; received = [] })
  pub open_still : ended ≡ false
  pub no_faults : faults ≡ 0
