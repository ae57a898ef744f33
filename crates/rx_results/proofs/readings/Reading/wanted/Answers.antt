use Rattle.std.proofs.Common.{◌∙◌, List, append_assoc, map}
use Rattle.rx_base.specs.declared.digests.Digest.{Digest}
use Rattle.rx_results.specs.ResultOutputs.{slot_at}
use Rattle.rx_results.specs.Results.{wanted_for}
use Rattle.rx_results.specs.Slots.{wanted}
use Rattle.std.specs.Prelude.{option_to_list}
use Rattle.rx_results.proofs.ReadingLemmas.{wanted-is}
use Rattle.rx_results.proofs.readings.Reading.wanted.Goals as goal

pub returns : goal.returns
returns c command given reading =
    let stdout : List Digest = option_to_list (wanted c.args.self.now.stdout) in
    let stderr : List Digest = option_to_list (wanted c.args.self.now.stderr) in
    let files : List Digest = wanted_for (map slot_at c.args.self.now.outputs) in
    let first = rw c.new-digests.ensures at c.in_ok-add_wanted.ensures in
    let all = rw (c.as_slice.ensures, c.in_ok-add_wanted-2.ensures, first) at
    c.in_ok-add_all_wanted.ensures in
    all ∙ append_assoc stdout stderr files ∙ wanted-is command given c.args.self.now reading
