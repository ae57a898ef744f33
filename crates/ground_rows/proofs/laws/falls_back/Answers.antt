use Rattle.std.proofs.Common.{arith, refl, sym}
use Rattle.std.proofs.lemmas.List.{length-map}
use Rattle.ground_rows.proofs.StepByStep.{at, ◌▸◌}
use Rattle.ground_rows.proofs.laws.falls_back.Goals as goal
use Rattle.rx_world.specs.declared.attempts.Origin.TheVariants as origins

pub returns : goal.returns
returns g c job outcome proper =
    refl
    ▸ at refl refl
    ▸ at refl (record { running = refl; fits = tt; stops = tt })
    ▸ at refl (_, refl)
    ▸ at refl refl
    ▸ at refl (record { running = refl; may_end = proper })
    ▸ at refl (_, refl)
    ▸ at refl (record {
      finished = record { outcome = outcome; origin = origins.Local };
      won_is = refl;
      no_entry = refl;
      no_reply = refl;
      room = omega arith;
      within = omega arith;
      later = omega arith;
      fewer = λ less. absurd (omega (arith, less));
    })
    ▸ at refl (record {
      unanswered = refl;
      cause = record {
        finished = record { outcome = outcome; origin = origins.Local };
        won_is = refl;
        exit_is = refl;
        origin_is = refl;
        entry = _;
        entry_is = refl;
        whole = sym (length-map outcome.files _);
      };
    })
    ▸ tt
