use Rattle.memchr.specs.Find.{is_byte2}
use Rattle.std.proofs.Common.{refl, List, ℕ, ◌∷◌}
use Rattle.rx_lex.specs.Letters.{ReadsSame}
use Rattle.rx_lex.specs.Pieces.{behind_text}
use Rattle.rx_lex.proofs.LetterLemmas.{reads_without}
use Rattle.rx_lex.proofs.RawLemmas.{close_passes, plain_count_to}
use Rattle.rx_lex.proofs.raw.near_close.Goals as goal

pub returns-clause-same : goal.returns-clause-same
returns-clause-same c = λ (name : List ℕ).
    let reads : ReadsSame (behind_text (41 ∷ name)) c.args.text.now c.args.at c.skip_to.result =
    reads_without (behind_text (41 ∷ name)) (is_byte2 41 92) refl (close_passes name) c.args.text.now c.args.at c.skip_to.result c.skip_to.ensures in
    reads.same

pub returns-clause-count : goal.returns-clause-count
returns-clause-count c = plain_count_to (is_byte2 41 92) refl c.args.text.now c.args.at c.skip_to.result c.skip_to.ensures
