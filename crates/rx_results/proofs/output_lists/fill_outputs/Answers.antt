use Rattle.std.proofs.Common.{sym}
use Rattle.rx_results.proofs.FillLemmas.{files_in-push, texts_past-push}
use Rattle.rx_results.proofs.output_lists.fill_outputs.Goals as goal

pub loop-output-preserved : goal.loop-output-preserved
loop-output-preserved c =
    let more = files_in-push c.loop-output.yielded c.in-Some.output c.args.texts.items in
    let left = texts_past-push c.loop-output.yielded c.in-Some.output c.args.texts.items in (
      rw (
        c.in_ok-push.ensures.ok,
        c.fill.ensures.file,
        c.loop-output.invariant.0,
        c.loop-output.invariant.1,
      ) (sym more),
      rw (c.fill.ensures.rest, c.loop-output.invariant.1) (sym left),
    )
