-- States that steps of one action lead to: each step that may come leads on.
use Rattle.std.proofs.Common.{◌≡◌, ℕ, true, List, [], ◌∷◌, ◌++◌, None, Some, refl, ap, sym, subst, ◌∙◌}
use Rattle.rx_core.specs.Actions.{Action, admitted, cancel, offer, standing_of, start}
use Rattle.rx_core.specs.Remote.{Job, Rules}
use Rattle.rx_core.specs.Runs.{IsRun, after_steps}
use Rattle.rx_core.specs.States.{State, with_action, with_change}
use Rattle.rx_core.specs.Steps.{Admit, Cancel, Exit, Hear, MayExit, MayHear, MayOffer, MayStep, Offer, Start, Step, after_step, exit, hear}
use Rattle.rx_core.proofs.Changes.{added-here, added-other, changed-here, changed-other}
use Rattle.rx_race.specs.Standings.{may_start}
use Rattle.rx_world.specs.declared.attempts.Attempt.{Attempt}
use Rattle.rx_world.specs.declared.attempts.Cause.{Cause}
use Rattle.rx_world.specs.declared.attempts.End.{End}
use Rattle.rx_world.specs.declared.attempts.Plan.{Plan}
use Rattle.rx_world.specs.declared.outcomes.Outcome.{Outcome}

-- ---- steps after steps

pub run-append : {H : Type 0} (rules : Rules H) (state : State H) (first more : List (Step H))
    → IsRun rules state first → IsRun rules (after_steps rules state first) more
    → IsRun rules state (first ++ more)
run-append rules state [] more run follow = follow
run-append rules state (step ∷ first) more run follow =
    (run.0, run-append rules (after_step rules state step) first more run.1 follow)

pub after-append : {H : Type 0} (rules : Rules H) (state : State H) (first more : List (Step H))
    → after_steps rules state (first ++ more) ≡ after_steps rules (after_steps rules state first) more
after-append rules state [] more = refl
after-append rules state (step ∷ first) more = after-append rules (after_step rules state step) first more

-- one step more
pub run-more : {H : Type 0} (rules : Rules H) (state : State H) (steps : List (Step H)) (step : Step H)
    → IsRun rules state steps → MayStep rules (after_steps rules state steps) step
    → IsRun rules state (steps ++ step ∷ [])
run-more rules state steps step run may = run-append rules state steps (step ∷ []) run (may, tt)

pub after-more : {H : Type 0} (rules : Rules H) (state : State H) (steps : List (Step H)) (step : Step H)
    → after_steps rules state (steps ++ step ∷ []) ≡ after_step rules (after_steps rules state steps) step
after-more rules state steps step = after-append rules state steps (step ∷ [])

-- ---- the action that changes

-- an action stands in a state that differs from another one in that action alone
pub record Stands {H : Type 0} (base : State H) (n : ℕ) (a : Action H) (state : State H)
    : Type 0 where
  pub there : state.actions n ≡ Some a
  pub others : (m : ℕ) → (m ≡ n → ⊥) → state.actions m ≡ base.actions m
  pub journal : state.journal ≡ base.journal
  pub limit : state.limit ≡ base.limit
  pub faults : state.faults ≡ base.faults

-- steps lead to such a state
pub record Reaches {H : Type 0} (rules : Rules H) (base : State H) (n : ℕ) (a : Action H)
    : Type 0 where
  pub state : State H
  pub steps : List (Step H)
  pub run : IsRun rules base steps
  pub leads : state ≡ after_steps rules base steps
  pub stands : Stands base n a state

module _ {H : Type 0} (rules : Rules H) (base : State H) (n : ℕ) where
  pub admit : (session : ℕ) (plan : Plan) (job : Job) → base.actions n ≡ None
      → Reaches rules base n (admitted session plan job)
  admit session plan job free =
      let a = admitted session plan job in record {
        state = with_action n a base;
        steps = Admit n session plan job ∷ [];
        run = (free, tt);
        leads = refl;
        stands = record {
          there = added-here base n a;
          others = added-other base n a;
          journal = refl;
          limit = refl;
          faults = refl;
        };
      }

  module _ (a : Action H) (r : Reaches rules base n a) where
    go : (step : Step H) (f : Action H → Action H)
        → ((state : State H) → state.actions n ≡ Some a → MayStep rules state step)
        → ((state : State H) → after_step rules state step ≡ with_change n f state)
        → Reaches rules base n (f a)
    go step f may leaves = record {
      state = with_change n f r.state;
      steps = r.steps ++ step ∷ [];
      run = run-more rules base r.steps step r.run
          (subst (λ state. MayStep rules state step) r.leads (may r.state r.stands.there));
      leads = sym (leaves r.state) ∙ ap (λ state. after_step rules state step) r.leads
          ∙ sym (after-more rules base r.steps step);
      stands = record {
        there = changed-here r.state n a f r.stands.there;
        others = λ m not. changed-other r.state n a f r.stands.there m not ∙ r.stands.others m not;
        journal = r.stands.journal;
        limit = r.stands.limit;
        faults = r.stands.faults;
      };
    }

    pub started : (x : Attempt) → may_start (standing_of a) x ≡ true → Reaches rules base n (start x a)
    started x may =
        go (Start n x) (start x) (λ state there. record { action = a; there = there; holds = may })
        (λ state. refl)

    pub heard : (item : H) → MayHear rules item a → Reaches rules base n (hear rules item a)
    heard item may =
        go (Hear n item) (hear rules item)
        (λ state there. record { action = a; there = there; holds = may }) (λ state. refl)

    pub exited : (end : End Outcome Cause) → MayExit end a → Reaches rules base n (exit end a)
    exited end may =
        go (Exit n end) (exit end) (λ state there. record { action = a; there = there; holds = may })
        (λ state. refl)

    pub offered : (x : Attempt) → MayOffer x a → Reaches rules base n (offer x a)
    offered x may =
        go (Offer n x) (offer x) (λ state there. record { action = a; there = there; holds = may })
        (λ state. refl)

    pub cancelled : Reaches rules base n (cancel a)
    cancelled =
        go (Cancel n) cancel (λ state there. record { action = a; there = there; holds = tt })
        (λ state. refl)
