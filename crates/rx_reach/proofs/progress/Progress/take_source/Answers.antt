use Rattle.std.proofs.Common.{refl, ap}
use Rattle.rx_world.specs.Sources.{is_file}
use Rattle.rx_reach.specs.Candidates.{is_other}
use Rattle.rx_reach.proofs.StartLemmas.{source-file, source-other}
use Rattle.rx_reach.proofs.progress.Progress.take_source.Goals as goal

pub returns-in-File-clause-takes : goal.returns-in-File-clause-takes
returns-in-File-clause-takes c = source-file c.args.source.now c.args.look c.args.self.now c.find.new.self c.find.result (ap is_file c.in-File.is) (ap is_other c.in-File.is) c.find.ensures.finds

pub returns-in_ok-insert-in-Other-clause-takes : goal.returns-in_ok-insert-in-Other-clause-takes
returns-in_ok-insert-in-Other-clause-takes c = source-other c.args.source.now c.args.look c.args.self.now _ (ap is_file c.in-Other.is) (ap is_other c.in-Other.is) c.in_ok-insert-in-Other.ensures refl refl refl
