use Rattle.std.proofs.Common.{arith, refl}
use Rattle.std.proofs.lemmas.List.{length-map}
use Rattle.ground_rows.proofs.StepByStep.{at, ◌▸◌}
use Rattle.ground_rows.proofs.laws.races.Goals as goal
use Rattle.ground_rows.specs.AtOnce.{success}
use Rattle.rx_world.specs.declared.attempts.Origin.TheVariants as origins

pub returns : goal.returns
returns g c job files some proper =
    refl
    ▸ at refl refl
    ▸ at refl refl
    ▸ at refl (record { running = refl; fits = proper; stops = tt })
    ▸ at refl (_, refl)
    ▸ at refl (record { running = refl; may_end = (refl, tt) })
    ▸ at refl (_, refl)
    ▸ at refl (record {
      finished = record { outcome = success files; origin = origins.Remote };
      won_is = refl;
      no_entry = refl;
      no_reply = refl;
      room = omega arith;
      within = omega arith;
      later = omega arith;
      fewer = λ less. omega arith;
    })
    ▸ at refl (record {
      unanswered = refl;
      cause = record {
        entry = _;
        entry_is = refl;
        placed_is = refl;
        fewer = rw length-map some;
      };
    })
    ▸ tt
