use Rattle.std.proofs.Common.{◌≡◌, ◌∙◌, ◌≤◌, ◌<◌, ◌-◌, length, refl, ap, arith, length-drop}
use Rattle.std.proofs.lemmas.Bool.Decides.{nat_tests}
use Rattle.rx_h2conn.proofs.SettingsLemmas.{settings_step, some_whole}
use Rattle.rx_h2conn.proofs.settings.read_settings.Goals as goal

pub loop-left-preserved : goal.loop-left-preserved
loop-left-preserved c =
    let left = c.loop-left.left.now in
    let rest = c.split_at.result.1.now in
    let back = c.split_at-in-loop-left.result.1.now in
    let some : 0 < length left = grind (arith, nat_tests, c.loop-left-test.ensures) in
    let whole : 6 ≤ length left = some_whole left c.loop-left.invariant.whole some in
    let rest_size : length rest ≡ length left - 2 = ap length c.split_at.ensures.back ∙ length-drop 2 left in
    let back_size : length back ≡ length rest - 4 = ap length c.split_at-in-loop-left.ensures.back ∙ length-drop 4 rest in
    record {
      whole = omega (arith, whole, rest_size, back_size, c.loop-left.invariant.whole);
      same = settings_step c.loop-left.all c.with-all.result left rest back _ c.number-value.result whole c.split_at.ensures.back c.split_at-in-loop-left.ensures.back refl c.number-value.ensures c.with-all.ensures ∙ c.loop-left.invariant.same;
    }
