use Rattle.std.proofs.Common.{◌≡◌, ◌++◌, drop, map}
use Rattle.rx_cppflags.specs.declared.meanings.Meaning.TheVariants.{Made}
use Rattle.rx_cppflags.specs.Pieces.{saying}
use Rattle.rx_cppflags.proofs.made.add_made.Given as goal

abbrev pub invariant-loop-text : goal.invariant-loop-text
invariant-loop-text l =
    l.pieces.items ++ map (λ text. saying l.site.directory.now l.site.inputs.now Made text text) (drop l.text-index l.texts)
    ≡ l.fn.pieces.items ++ map (λ text. saying l.site.directory.now l.site.inputs.now Made text text) l.texts
