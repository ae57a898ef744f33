-- No step changes a decision that was made, an entry or a reply.
use Rattle.std.proofs.Common.{◌≡◌, ℕ, None, Some, refl, sym, subst, ◌∙◌}
use Rattle.rx_board.specs.declared.journal.Entry.{Entry}
use Rattle.rx_core.specs.Actions.{Action, admitted, cancel, offer, start}
use Rattle.rx_core.specs.Facts.{Persists, Keeps}
use Rattle.rx_core.specs.Publications.{entry_of, publish, published, with_entry}
use Rattle.rx_core.specs.Remote.{Rules}
use Rattle.rx_core.specs.Replies.{Reply}
use Rattle.rx_core.specs.States.{State, with_action, with_change}
use Rattle.rx_core.specs.Steps.{Admit, Answer, Cancel, Exit, Hear, MayOffer, MayStep, Offer, Publish, Start, Step, after_step, answer, exit, hear}
use Rattle.rx_core.proofs.Cases.{none-some, some-is}
use Rattle.rx_core.proofs.Changes.{added-each, changed-each}
use Rattle.rx_core.proofs.OfferSteps.{cancel-stays, local-stays, remote-stays}
use Rattle.rx_world.specs.declared.attempts.Attempt.{Attempt}
use Rattle.rx_world.specs.declared.attempts.Attempt.TheVariants.{Local, Remote}

-- ---- of one action

keeps-same : {H : Type 0} (a : Action H) → Keeps a a
keeps-same a = record { decision = λ made. refl; entry = λ e h. h; reply = λ r h. h }

keeps-start : {H : Type 0} (a : Action H) (x : Attempt) → Keeps a (start x a)
keeps-start a Local = record { decision = λ made. refl; entry = λ e h. h; reply = λ r h. h }
keeps-start a Remote = record { decision = λ made. refl; entry = λ e h. h; reply = λ r h. h }

keeps-offer : {H : Type 0} (a : Action H) (x : Attempt) → MayOffer x a → Keeps a (offer x a)
keeps-offer a Local may =
    subst (λ p. Keeps (record a { local = p }) (offer Local (record a { local = p }))) (sym may.1)
    (record { decision = local-stays a may.0; entry = λ e h. h; reply = λ r h. h })
keeps-offer a Remote may =
    subst (λ p. Keeps (record a { remote = p }) (offer Remote (record a { remote = p })))
    (sym may.1)
    (record { decision = remote-stays a may.0; entry = λ e h. h; reply = λ r h. h })

keeps-entry : {H : Type 0} (a : Action H) (entry : Entry) → a.entry ≡ None
    → Keeps a (with_entry entry a)
keeps-entry a entry none = record {
  decision = λ made. refl;
  entry = λ e h. none-some (sym none ∙ h);
  reply = λ r h. h;
}

keeps-answer : {H : Type 0} (a : Action H) (reply : Reply) → a.reply ≡ None
    → Keeps a (answer reply a)
keeps-answer a reply none = record {
  decision = λ made. refl;
  entry = λ e h. h;
  reply = λ r h. none-some (sym none ∙ h);
}

-- ---- of the state

module _ {H : Type 0} (state : State H) (n : ℕ) (one : Action H) where
  kept-change : (f : Action H → Action H) → state.actions n ≡ Some one → Keeps one (f one)
      → (m : ℕ) (a : Action H) → state.actions m ≡ Some a → Persists a ((with_change n f state).actions m)
  kept-change f there keeps m a =
      changed-each state n one f there (λ k found. state.actions k ≡ Some a → Persists a found)
      (λ is. let same : one ≡ a = some-is (sym there ∙ is) in record {
        now = f one;
        there = refl;
        keeps = subst (λ t. Keeps t (f one)) same keeps;
      })
      (λ k not is. record { now = a; there = is; keeps = keeps-same a }) m

  kept-admit : state.actions n ≡ None → (m : ℕ) (a : Action H) → state.actions m ≡ Some a
      → Persists a ((with_action n one state).actions m)
  kept-admit free m a =
      added-each state n one (λ k found. state.actions k ≡ Some a → Persists a found)
      (λ is. none-some (sym free ∙ is)) (λ k not is. record { now = a; there = is; keeps = keeps-same a }) m

kept-publish : {H : Type 0} (rules : Rules H) (state : State H) (n placed faults : ℕ)
    → MayStep rules state (Publish n placed faults) → (m : ℕ) (a : Action H)
    → state.actions m ≡ Some a
    → Persists a ((publish n placed faults state (state.actions n)).actions m)
kept-publish rules state n placed faults may m a is =
    let one = may.action in
    let entry = entry_of state one placed may.holds.finished.outcome in
    let keeps = keeps-entry one entry may.holds.no_entry in
    subst (λ found. Persists a ((publish n placed faults state found).actions m)) (sym may.there)
    (subst (λ f. Persists a ((published n placed faults state one f).actions m))
    (sym may.holds.won_is)
    (kept-change state n one (with_entry entry) may.there keeps m a is))

pub step-stays : {H : Type 0} (rules : Rules H) (state : State H) (step : Step H)
    → MayStep rules state step → (m : ℕ) (a : Action H) → state.actions m ≡ Some a
    → Persists a ((after_step rules state step).actions m)
step-stays rules state (Admit n session plan job) may m a is =
    kept-admit state n (admitted session plan job) may m a is
step-stays rules state (Start n x) may m a is =
    kept-change state n may.action (start x) may.there (keeps-start may.action x) m a is
step-stays rules state (Hear n item) may m a is =
    kept-change state n may.action (hear rules item) may.there
    (record { decision = λ made. refl; entry = λ e h. h; reply = λ r h. h }) m a is
step-stays rules state (Exit n end) may m a is =
    kept-change state n may.action (exit end) may.there
    (record { decision = λ made. refl; entry = λ e h. h; reply = λ r h. h }) m a is
step-stays rules state (Offer n x) may m a is =
    kept-change state n may.action (offer x) may.there (keeps-offer may.action x may.holds) m a is
step-stays rules state (Cancel n) may m a is =
    kept-change state n may.action cancel may.there (record {
      decision = cancel-stays may.action;
      entry = λ e h. h;
      reply = λ r h. h;
    }) m a is
step-stays rules state (Publish n placed faults) may m a is =
    kept-publish rules state n placed faults may m a is
step-stays rules state (Answer n reply) may m a is =
    kept-change state n may.action (answer reply) may.there
    (keeps-answer may.action reply may.holds.unanswered) m a is
