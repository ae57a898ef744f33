use Rattle.std.proofs.Common.{rules, sym, [], ◌∷◌, None}
use Rattle.std.proofs.lemmas.List.Elements.{All-head}
use Rattle.rx_world.specs.Sources.{given_look}
use Rattle.rx_reach.specs.Scenes.{IsRight}
use Rattle.rx_reach.proofs.ScanLemmas.{scans-none, sees-look}
use Rattle.rx_reach.proofs.sights.Sights.look.Goals as goal

pub returns-in-Some-clause-ok : goal.returns-in-Some-clause-ok
returns-in-Some-clause-ok g c =
    scans-none _ _ _ _ _ (sees-look _ c.args.path.now c.in-Some.look.now (rw (sym c.self.view_is) (sym c.in-Some.ensures.value)))

pub returns-in_ok-add-in-Ok-clause-ok : goal.returns-in_ok-add-in-Ok-clause-ok
returns-in_ok-add-in-Ok-clause-ok g c = record {
  answers = given_look c.args.path.now c.in-Ok.look ∷ [];
  gives = record { told = search rules; kept = search rules; by_list = search rules; contents = search rules; holds = search rules; later = search rules };
  notes = c.in_ok-add-in-Ok.ensures.added None;
  known = λ scene _ all. (All-head (IsRight scene) (given_look c.args.path.now c.in-Ok.look) [] all).look_is;
}
