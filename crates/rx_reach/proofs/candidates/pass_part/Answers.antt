use Rattle.std.proofs.Common.{◌≡◌, sym, ◌∙◌, ap, List, [], ◌∷◌, ◌++◌}
use Rattle.std.specs.Prelude.{codes}
use Rattle.std.specs.Str.{bytes_eq}
use Rattle.rx_reach.specs.declared.candidates.Step.{Step}
use Rattle.rx_reach.proofs.WayLemmas.{goes-on, skips-empty, skips-here, stepped, steps-one, too-long, with_part-skips}
use Rattle.rx_reach.proofs.candidates.pass_part.Goals as goal
use Rattle.rx_reach.proofs.candidates.pass_part.Goals.{then-is_empty-via-then-is_empty, then-is_empty-via-else-is_empty+then-eq}

pub returns-then-is_empty-clause-names : goal.returns-then-is_empty-clause-names
returns-then-is_empty-clause-names c =
    elim c.then-is_empty.branch [
      | then-is_empty-via-then-is_empty w ↦ (c.requires.path, with_part-skips _ c.args.part.now (skips-empty c.args.part.now w.if-is_empty.ensures))
      | then-is_empty-via-else-is_empty+then-eq w ↦ (c.requires.path, with_part-skips _ c.args.part.now (skips-here c.args.part.now w.if-eq.ensures))
    ]

pub returns-in-Ok-clause-steps : goal.returns-in-Ok-clause-steps
returns-in-Ok-clause-steps c =
    let some = goes-on c.args.part.now c.if-is_empty.ensures c.if-eq.ensures in
    let left : c.eq-left.result ≡ bytes_eq c.args.part.now (codes "..") = c.eq-left.ensures in
    c.in_ok-push-in-Ok.ensures.items
    ∙ ap (λ b. c.args.walk.steps.items ++ record { path = c.args.walk.at; left = b } ∷ []) left
    ∙ ap (λ (more : List Step). c.args.walk.steps.items ++ more) (sym (steps-one c.args.walk.at c.args.part.now c.requires.path some))

pub returns-in-Ok-clause-names : goal.returns-in-Ok-clause-names
returns-in-Ok-clause-names c =
    stepped c.args.walk.at c.args.part.now c.in-Ok.next c.requires.path c.requires.no_slash c.requires.no_zero c.requires.leads (sym c.if-is_empty.ensures) c.in-Ok.ensures

pub returns : goal.returns
returns c =
    let some = goes-on c.args.part.now c.if-is_empty.ensures c.if-eq.ensures in
    record {
      long = λ e. (some, too-long c.args.walk.at c.args.part.now c.in-Err.fault c.requires.path c.requires.no_slash c.requires.no_zero c.requires.leads some (c.in-Err.ensures c.in_default.not-NoMemory));
      steps = tt;
      names = tt;
    }
