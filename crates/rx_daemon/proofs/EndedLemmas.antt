-- Which sessions of a run were asked to end it.
use Rattle.std.proofs.Common.{◌≡◌, ◌⊎◌, ◌+◌, ◌≤◌, ◌∙◌, ℕ, length, Bool, true, false, List, [], ◌∷◌, ◌++◌, Option, arith, inl, inr, refl, sym}
use Rattle.std.specs.Prelude.{◌≢◌, None, Some}
use Rattle.std.specs.declared.sync.ledger.Blank.{Blank}
use Rattle.std.proofs.lemmas.List.Folds.{list_any-append}
use Rattle.rx_engine.specs.declared.transcripts.Transcript.{Transcript}
use Rattle.rx_daemon.specs.declared.gate.Left.{Left}
use Rattle.rx_daemon.specs.declared.gate.Left.TheVariants.{Ended, Lost, Spent}
use Rattle.rx_daemon.specs.declared.proxy.Stop.{Stop}
use Rattle.rx_daemon.specs.declared.proxy.Stop.TheVariants as stops
use Rattle.rx_daemon.specs.Gates.{IsGate, serving_status_by}
use Rattle.rx_daemon.specs.Proxy.{EndsWhereAsked, HasServed, HasServingStatus, IsEndedBy, asks_to_end, is_asked_to_end, status_of}

-- one session more, which wasn't asked
pub unasked-more : (ts : List Transcript) (t : Transcript) → is_asked_to_end ts ≡ false → asks_to_end t.read ≡ false → is_asked_to_end (ts ++ t ∷ []) ≡ false
unasked-more ts t h k = list_any-append (λ (x : Transcript). asks_to_end x.read) ts (t ∷ []) ∙ rw (h, k) refl

-- ---- in threads

module _ {F D : Type 0} (coming : F → Option (List D)) (faults given : F → ℕ) (over : F → Bool) (gives : ℕ → D → Type 0) (first : Option (List D))
    (first_gives : ℕ → D → Type 0) (first_faults first_given : ℕ) (rights : List Blank) (front : F) (taken : ℕ) (some : List Blank) where
  abbrev At : Option Left → Type 0
  At left = IsGate coming faults given over gives first first_gives first_faults first_given rights
      (record { front = front; left = left; taken = taken; rights = some })

  starved : (count : ℕ) (asked : Bool) → HasServingStatus (over front) first_faults (faults front) 4 count asked
  starved count asked = record { ended = λ e. cc; lost = λ e. cc; spent = λ e. cc; no_other = inr (inr (inl refl)) }

  pub status-told : (left : Option Left) (wanting asked : Bool) (count : ℕ) → At left → taken ≡ count
      → HasServingStatus (over front) first_faults (faults front) (serving_status_by left wanting asked) count asked
  status-told (Some Lost) wanting asked count gate even = record {
    ended = λ e. cc;
    lost = λ e. gate.lost refl;
    spent = λ e. cc;
    no_other = inr (inl refl);
  }
  status-told (Some Ended) true asked count gate even = starved count asked
  status-told (Some Ended) false asked count gate even =
      record { ended = λ e. inl (gate.ended refl); lost = λ e. cc; spent = λ e. cc; no_other = inl refl }
  status-told (Some Spent) true asked count gate even = starved count asked
  status-told (Some Spent) false asked count gate even = record {
    ended = λ e. cc;
    lost = λ e. cc;
    spent = λ e. omega (arith, gate.spent refl, even);
    no_other = inr (inr (inr (inl refl)));
  }
  status-told None true asked count gate even = starved count asked
  status-told None false true count gate even =
      record { ended = λ e. inr refl; lost = λ e. cc; spent = λ e. cc; no_other = inl refl }
  status-told None false false count gate even = starved count false

  -- as many sessions as desks that were taken, but where the front failed
  pub served-told : (left : Option Left) (wanting asked : Bool) (count : ℕ) → At left → taken ≡ count
      → HasServed first_given (given front) (serving_status_by left wanting asked) count
  served-told left wanting asked count gate even = record {
    within = omega (arith, gate.within, even);
    each = λ well. as-many left gate well;
  } where
    as-many : (left : Option Left) → At left → serving_status_by left wanting asked ≢ 3 → first_given + count ≡ given front
    as-many (Some Lost) gate well = absurd (well refl)
    as-many (Some Ended) gate well = omega (arith, gate.each (λ e. cc), even)
    as-many (Some Spent) gate well = omega (arith, gate.each (λ e. cc), even)
    as-many None gate well = omega (arith, gate.each (λ e. cc), even)

-- what isn't false is true
pub not-false : (b : Bool) → (b ≡ false → ⊥) → b ≡ true
not-false true h = refl
not-false false h = absurd (h refl)

-- the status where a run stopped
pub ends-by : (stop : Stop) (ts : List Transcript) → IsEndedBy stop ts → EndsWhereAsked (status_of stop ts) ts
ends-by stops.ShutDown ts h = inr (h, refl)
ends-by stops.Ended ts h = inl h
ends-by stops.FrontLost ts h = inl h
ends-by stops.NoMemory ts h = inl h
ends-by stops.Spent ts h = inl h
