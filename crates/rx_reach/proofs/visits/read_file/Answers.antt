use Rattle.std.proofs.Common.{◌≡◌, rules, [], ◌∷◌, Some}
use Rattle.std.proofs.lemmas.Result.{err_from_is_err_and}
use Rattle.std.proofs.lemmas.List.Elements.{All-head}
use Rattle.rx_world.specs.Sources.{given_bytes}
use Rattle.rx_world.specs.declared.sources.Given.{Given}
use Rattle.rx_reach.specs.Scenes.{IsRight}
use Rattle.rx_reach.specs.Sights.{seen_at}
use Rattle.rx_reach.proofs.visits.read_file.Goals as goal

pub returns-in_err-note-in-Ok-clause-err : goal.returns-in_err-note-in-Ok-clause-err
returns-in_err-note-in-Ok-clause-err g c =
    let p = err_from_is_err_and c.from_residual.result c.from_residual.ensures.1 in
    rw (p.1, p.2) (record {
      answers = given_bytes c.args.path.now c.in-Ok.look c.in-Ok.bytes ∷ [];
      gives = record { told = search rules; kept = search rules; by_list = search rules; contents = search rules; holds = search rules; later = search rules };
      blames = c.in_err-note-in-Ok.ensures.changed (Some c.in-Ok.bytes) _ _;
    })

pub returns-in_ok-note-in-Ok-clause-ok : goal.returns-in_ok-note-in-Ok-clause-ok
returns-in_ok-note-in-Ok-clause-ok g c = record {
  answers = given_bytes c.args.path.now c.in-Ok.look c.in-Ok.bytes ∷ [];
  gives = record { told = search rules; kept = search rules; by_list = search rules; contents = search rules; holds = search rules; later = search rules };
  notes = c.in_ok-note-in-Ok.ensures.noted (Some c.in-Ok.bytes);
  known = λ scene _ all. let right = All-head (IsRight scene) (given_bytes c.args.path.now c.in-Ok.look c.in-Ok.bytes) [] all in (right.look_is, right.bytes_are);
}

pub returns-in_ok-note-in-Ok-clause-seen : goal.returns-in_ok-note-in-Ok-clause-seen
returns-in_ok-note-in-Ok-clause-seen g c =
    All-head (λ (answer : Given). seen_at c.note.new.self answer.path ≡ Some answer.look) (given_bytes c.args.path.now c.in-Ok.look c.in-Ok.bytes) [] (c.in_ok-note-in-Ok.ensures.noted (Some c.in-Ok.bytes)).same
