-- What holds of a tool that is to be run here, whichever its inputs are.
use Rattle.std.proofs.Common.{◌≡◌, ℕ, false, List, [], length, refl, ap, sym, subst, ◌∙◌, arith}
use Rattle.std.specs.Prelude.{None, Option, Some}
use Rattle.rx_board.specs.declared.journal.Entry.{Entry}
use Rattle.rx_reach.specs.Scenes.{Scene}
use Rattle.rx_scan.specs.declared.gathering.Gathered.{Gathered}
use Rattle.rx_scan.specs.declared.plans.Choice.{Choice}
use Rattle.rx_scan.specs.Gathering.{Asked, IsGathered, IsKept, asked_for, plan_of}
use Rattle.rx_world.specs.declared.attempts.Plan.TheVariants.{LocalOnly}
use Rattle.rx_world.specs.declared.commands.Command.{Command}
use Rattle.rx_world.specs.declared.commands.Kind.TheVariants.{Tool}
use Rattle.rx_world.specs.declared.commands.Strategy.TheVariants.{Local}
use Rattle.rx_world.specs.declared.outcomes.Exit.{Exit}
use Rattle.rx_world.specs.declared.outcomes.FileOut.{FileOut}
use Rattle.rx_world.specs.declared.outcomes.Outcome.{Outcome}
use Rattle.rx_world.specs.declared.refusals.LocalCause.{LocalCause}
use Rattle.rx_world.specs.Causes.{Rose}

abbrev pub by_local : Choice
by_local = record { strategy = Local; in_place = false }

abbrev pub here : Command → List (List ℕ) → Asked
here command inputs = asked_for command Tool inputs by_local

-- nothing keeps it here
pub unkept : (command : Command) (inputs : List (List ℕ)) (scene : Scene) (cause : Option LocalCause) → IsKept scene (here command inputs) cause → cause ≡ None
unkept command inputs scene cause k = k.of_tool refl

pub kept-by-none : (command : Command) (inputs : List (List ℕ)) (scene : Scene) (cause : LocalCause) → IsKept scene (here command inputs) (Some cause) → ⊥
kept-by-none command inputs scene cause k = let e : Some cause ≡ None = unkept command inputs scene (Some cause) k in cc

-- and its plan is to be run here alone
pub here-alone : (command : Command) (inputs : List (List ℕ)) (scene : Scene) (gathered : Gathered) → IsGathered scene (here command inputs) gathered
    → gathered.plan ≡ LocalOnly
here-alone command inputs scene gathered g =
    let none : g.cause ≡ None = unkept command inputs scene g.cause g.kept in
    let planned : plan_of by_local None ≡ Some gathered.plan = subst (λ cause. plan_of by_local cause ≡ Some gathered.plan) none g.plan_is in
    cc

-- an outcome by its parts
pub outcome-of : (o : Outcome) (e : Exit) (files : List FileOut) → o.exit ≡ e → o.files ≡ files → o ≡ record { exit = e; files = files }
outcome-of o e files exit_is files_are =
    let with_exit : o ≡ record { exit = e; files = o.files } = subst (λ (x : Exit). o ≡ record { exit = x; files = o.files }) exit_is refl in
    subst (λ (xs : List FileOut). o ≡ record { exit = e; files = xs }) files_are with_exit

-- what never counts a fault doesn't
pub uncounted : Rose 0 0 → ⊥
uncounted rose = omega arith

-- a journal for one entry takes the first one
pub one_left : (journal : List Entry) (limit : ℕ) → journal ≡ [] → limit ≡ 1 → length journal ≡ limit → ⊥
one_left journal limit none one full =
    let left : length {A = Entry} [] ≡ 1 = ap length (sym none) ∙ full ∙ one in
    omega arith
