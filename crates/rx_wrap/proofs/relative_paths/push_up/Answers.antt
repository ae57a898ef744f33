use Rattle.std.proofs.Common.{◌∙◌, string_bytes}
use Rattle.rx_wrap.proofs.WayLemmas.{up_more}
use Rattle.rx_wrap.proofs.relative_paths.push_up.Goals as goal

pub loop-name-preserved : goal.loop-name-preserved
loop-name-preserved c =
    up_more (string_bytes c.loop-name.text) _ c.in-Some.names.now c.loop-name._name-index c.in-Some.field-0-0.now c.loop-name-test.true c.in_ok-push_str-2.ensures.bytes ∙ c.loop-name.invariant
