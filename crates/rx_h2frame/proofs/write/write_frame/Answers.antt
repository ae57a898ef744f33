use Rattle.rx_h2frame.specs.Write.{out_view}
use Rattle.rx_h2frame.proofs.WriteLemmas.{reads_back_behind}
use Rattle.rx_h2frame.proofs.write.write_frame.Goals as goal

pub returns-clause-reads_back : goal.returns-clause-reads_back
returns-clause-reads_back c = reads_back_behind c.args.out.now.items c.put_frame.new.out.items (out_view c.args.frame.now) c.put_frame.result c.requires.stream c.put_frame.ensures.ok
