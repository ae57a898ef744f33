use Rattle.rx_session.proofs.PathTextLemmas.{own_again}
use Rattle.rx_session.proofs.path_texts.path_text.Goals as goal

pub returns-clause-again : goal.returns-clause-again
returns-clause-again c = own_again c.args.path.now c.as_str.ensures.again
