use Rattle.std.proofs.Common.{◌≡◌, ap, ◌∙◌, cond}
use Rattle.rx_world.specs.declared.looks.Look.TheVariants.{Dir}
use Rattle.rx_reach.specs.Candidates.{step_look}
use Rattle.rx_reach.specs.Scenes.{Always}
use Rattle.rx_reach.proofs.ScanLemmas.{ok-says, ok-sees-look, scans-none}
use Rattle.rx_reach.proofs.candidates.look_at.Goals as goal

pub returns-then-is_root-clause-ok : goal.returns-then-is_root-clause-ok
returns-then-is_root-clause-ok g c = scans-none _ _ _ _ Always (λ scene _. tt)

pub returns-then-is_root-clause-right : goal.returns-then-is_root-clause-right
returns-then-is_root-clause-right g c = λ scene _. ap (λ b. cond b Dir (scene.look c.args.path.now)) c.if-is_root.ensures

pub returns-clause-ok : goal.returns-clause-ok
returns-clause-ok g c =
    ok-says _ _ _ _ _ _ c.look.result (λ look scene. look ≡ scene.look c.args.path.now) (λ look. Always) (λ look scene _. tt) c.look.ensures.ok

pub returns-clause-right : goal.returns-clause-right
returns-clause-right g c =
    ok-sees-look c.look.new.self c.args.path.now c.look.result (λ look scene. look ≡ step_look scene c.args.path.now)
    (λ look scene e. e ∙ ap (λ b. cond b Dir (scene.look c.args.path.now)) c.if-is_root.ensures) c.look.ensures.seen
