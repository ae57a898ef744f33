-- The end of the lists, and want of memory after it.
use Rattle.std.proofs.Common.{ℕ, ◌≤◌, List, length, subst, take}
use Rattle.std.proofs.lemmas.List.{take_all}
use Rattle.rx_world.specs.declared.looks.Look.{Look}
use Rattle.rx_world.specs.declared.sources.Sources as sources
use Rattle.rx_world.specs.declared.world.World as world
use Rattle.rx_scan.specs.declared.gather_fault.GatherFault.TheVariants.{NoMemory}
use Rattle.rx_scan.specs.declared.inputs.LookedInputs.{LookedInputs}
use Rattle.rx_scan.specs.Inputs.{BlamesInputs, HasListed}
use Rattle.rx_scan.specs.Lists.{Fails, Learns}
use Rattle.rx_scan.proofs.DeclaredSteps.{IsLookedListed}
use Rattle.rx_scan.proofs.InputSteps.{out_of_memory}
use Rattle.rx_scan.proofs.Learning.{learns-join, learns-so}

abbrev Sights : Type 0
Sights = List (List ℕ × Look)

module _ {T W : Type 0} (w : world.Ghosts W) (s : sources.Ghosts T W) where
  pub taken-no_memory : (a b c : T) (old mid new : Sights) (inputs roots first all : List (List ℕ)) (looked : LookedInputs) → Learns w s a b old mid (λ scene. IsLookedListed scene inputs looked first)
      → Learns w s b c mid new (λ scene. HasListed scene first roots all) → Fails w s a c old new (BlamesInputs inputs roots NoMemory)
  taken-no_memory a b c old mid new inputs roots first all looked l m =
      out_of_memory w s a c old new new (λ scene. HasListed scene first roots all) inputs roots
      (learns-join w s a b c old mid new (λ scene. IsLookedListed scene inputs looked first) (λ scene. HasListed scene first roots all) (λ scene. HasListed scene first roots all) l m (λ scene x y. y))

  -- all of the paths were listed
  pub list-end : (a c : T) (old new : Sights) (files roots all : List (List ℕ)) (i : ℕ) → length roots ≤ i → Learns w s a c old new (λ scene. HasListed scene files (take i roots) all) → Learns w s a c old new (λ scene. HasListed scene files roots all)
  list-end a c old new files roots all i le l =
      learns-so w s a c old new (λ scene. HasListed scene files (take i roots) all) (λ scene. HasListed scene files roots all) l
      (λ scene h. subst (λ rs. HasListed scene files rs all) (take_all i roots le) h)
