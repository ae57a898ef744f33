-- Runs of the whole proxy: any list of steps, each where it may come.
use Rattle.std.specs.Prelude.{◌≡◌, ℕ, List, [], ◌∷◌, None}
use Rattle.rx_core.specs.Remote.{Rules}
use Rattle.rx_core.specs.States.{State}
use Rattle.rx_core.specs.Steps.{MayStep, Step, after_step}
use Rattle.rx_world.specs.declared.outcomes.FileOut.{FileOut}

-- no actions, an empty journal that takes so many entries, and a place with these files and this
-- count of faults
abbrev pub opening : {H : Type 0} → List FileOut → ℕ → ℕ → State H
opening files limit faults = record {
  actions = λ n. None;
  journal = [];
  limit = limit;
  place = files;
  faults = faults;
}

abbrev pub after_steps : {H : Type 0} → Rules H → State H → List (Step H) → State H
after_steps rules state [] = state
after_steps rules state (step ∷ steps) = after_steps rules (after_step rules state step) steps

abbrev pub IsRun : {H : Type 0} → Rules H → State H → List (Step H) → Type 0
IsRun rules state [] = Unit {0}
IsRun rules state (step ∷ steps) =
    MayStep rules state step × IsRun rules (after_step rules state step) steps

-- some run leads to this state, from a place that holds these files
pub record IsReached {H : Type 0} (rules : Rules H) (files : List FileOut) (state : State H)
    : Type 0 where
  pub limit : ℕ
  pub faults : ℕ
  pub steps : List (Step H)
  pub run : IsRun rules (opening files limit faults) steps
  pub leads : state ≡ after_steps rules (opening files limit faults) steps
