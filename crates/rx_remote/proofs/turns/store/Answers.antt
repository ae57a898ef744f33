use Rattle.rx_remote.specs.Actions.{stored_of}
use Rattle.rx_remote.proofs.StoreLemmas.{stored-fits, upload-own}
use Rattle.rx_remote.proofs.turns.store.Goals as goal

pub returns-in-Ok-clause-turn : goal.returns-in-Ok-clause-turn
returns-in-Ok-clause-turn g c = record {
  fits = stored-fits (stored_of c.args.action.now) c.in-Ok.left_out c.args.fresh c.in-Ok.ensures.part (c.in-Ok.ensures.fresh);
  honest = λ command outcome genuine vouches runs. tt;
  names = λ genuine. tt;
  runs = tt;
  streams = λ under_way. absurd under_way;
  exchanged = c.in-Ok.ensures.exchanged;
  counted = tt;
}

pub returns-in-Err-clause-reads : goal.returns-in-Err-clause-reads
returns-in-Err-clause-reads g c told =
    upload-own g.W.World g.S.Sources c.args.action.now.blobs.now c.args.action.now.job.files.now c.args.sources.now c.upload.new.sources told c.in-Err.fault
    c.requires.within c.in-Err.ensures.read
