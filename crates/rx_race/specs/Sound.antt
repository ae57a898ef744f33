-- What holds of each race, and what stays.
use Rattle.std.specs.Prelude.{◌≡◌, ◌≢◌, true}
use Rattle.rx_world.specs.declared.attempts.Attempt.{Attempt}
use Rattle.rx_world.specs.declared.attempts.Plan.TheVariants.{Fallback}
use Rattle.rx_world.specs.declared.decisions.Decision.TheVariants.{By, Nothing, Undecided}
use Rattle.rx_world.specs.Decisions.{IsSettled}
use Rattle.rx_race.specs.declared.events.Verdict.{Verdict}
use Rattle.rx_race.specs.declared.events.Verdict.TheVariants.{Late, Noted, Won}
use Rattle.rx_race.specs.declared.standing.Phase.TheVariants.{Idle, Offered}
use Rattle.rx_race.specs.declared.standing.Standing.{Standing}
use Rattle.rx_race.specs.Races.{Course, standing_of}
use Rattle.rx_race.specs.Standings.{in_plan, phase_of}

-- An end that was told Won may be published, and one that was told Noted may not.
pub record Sound (s : Standing) : Type 0 where
  -- an attempt that was started is in the plan
  pub planned : (x : Attempt) → phase_of x s ≢ Idle → in_plan s.plan x ≡ true
  -- under Fallback the local attempt was started only after the remote one offered an end that may
  -- not be published
  pub falls_back : s.plan ≡ Fallback → s.local ≢ Idle → s.remote ≡ Offered Noted
  -- while nothing is decided, no end that was offered may be published
  pub undecided : s.decision ≡ Undecided
      → (x : Attempt) (v : Verdict) → phase_of x s ≡ Offered v → v ≡ Noted
  -- the attempt that it is decided for offered an end that may be published
  pub by : (x : Attempt) → s.decision ≡ By x → phase_of x s ≡ Offered Won
  -- no other attempt was told so
  pub only : (x : Attempt) → phase_of x s ≡ Offered Won → s.decision ≡ By x
  -- where nothing is published, each attempt of the plan offered an end that may not be
  pub nothing : s.decision ≡ Nothing
      → (x : Attempt) → in_plan s.plan x ≡ true → phase_of x s ≡ Offered Noted
  -- and only then
  pub over : ((x : Attempt) → in_plan s.plan x ≡ true → phase_of x s ≡ Offered Noted)
      → s.decision ≡ Nothing
  -- an offer came late only after another attempt won, or a cancel
  pub late : (x : Attempt) → phase_of x s ≡ Offered Late → IsSettled s.decision

-- a decision that was made stays
abbrev pub KeepsDecision : Course → Course → Type 0
KeepsDecision before now =
    (standing_of before).decision ≢ Undecided
    → (standing_of now).decision ≡ (standing_of before).decision
