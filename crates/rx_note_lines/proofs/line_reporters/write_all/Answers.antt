use Rattle.std.proofs.Common.{rules, arith, take, drop, length, ◌-◌, ◌≡◌, length-drop}
use Rattle.std.proofs.Math.Seq.{take-add}
use Rattle.std.proofs.lemmas.List.{take_all}
use Rattle.std.proofs.KnownBytes.{Appends-trans}
use Rattle.rx_note_lines.proofs.line_reporters.write_all.Goals as goal

pub pieces-preserved : goal.pieces-preserved
pieces-preserved g c =
    let rest : take (length c.args.bytes.now - c.pieces.sent) (drop c.pieces.sent c.args.bytes.now) ≡ drop c.pieces.sent c.args.bytes.now = grind (arith, take_all, length-drop) in
    record {
      told = rw (take-add c.pieces.sent c.in-Ok.count c.args.bytes.now)
          (Appends-trans _ _ _ _ _ c.pieces.invariant.told (rw rest at c.in-Ok.ensures.bytes));
      later = search rules;
      bound = search rules;
    }
