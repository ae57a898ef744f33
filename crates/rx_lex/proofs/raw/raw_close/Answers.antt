use Rattle.std.proofs.Common.{[], ◌∷◌, ◌++◌, ◌∙◌, ◌≡◌, arith, length-append}
use Rattle.rx_lex.specs.Letters.{Letter, letters_at, letter_before}
use Rattle.rx_lex.specs.Pieces.{behind_text}
use Rattle.rx_lex.proofs.RawLemmas.{begins_count, close_found, close_not, close_passed, letter_count}
use Rattle.rx_lex.proofs.raw.raw_close.Goals as goal
use Rattle.rx_lex.proofs.raw.raw_close.Goals.{then-byte-eq41+in_default-behind_delimiter, else-byte-eq41}

pub loop-byte-preserved : goal.loop-byte-preserved
loop-byte-preserved c =
    let text = c.args.text.now in
    let name = c.args.delimiter.now ++ 34 ∷ [] in
    let near = c.near_close-near.result in
    let next = c.in-Some.next in
    let first : Letter = letter_before text c.in-Some.byte next in
    let step : behind_text (41 ∷ name) (letters_at text near) ≡ behind_text (41 ∷ name) (letters_at text next) =
    elim c.if-byte-eq41.branch [
      | then-byte-eq41+in_default-behind_delimiter w ↦ close_not name first (letters_at text near) (letters_at text next) c.in-Some.ensures.is w.in_default-behind_delimiter.ensures
      | else-byte-eq41 w ↦ close_passed name first (letters_at text near) (letters_at text next) c.in-Some.ensures.is w.if-byte-eq41.false
    ] in
    let count = letter_count text near c.in-Some.byte next c.in-Some.ensures in
    record {
      same = c.loop-byte.invariant.same ∙ (c.near_close-near.ensures.same name ∙ step);
      count = omega (arith, c.near_close-near.ensures.count, count, c.near_close-near.ensures.on);
      on = omega (arith, c.in-Some.ensures.on, c.near_close-near.ensures.on);
      within = c.in-Some.ensures.within;
    }

pub returns-in-Some-behind_delimiter : goal.returns-in-Some-behind_delimiter
returns-in-Some-behind_delimiter c =
    let text = c.args.text.now in
    let name = c.args.delimiter.now ++ 34 ∷ [] in
    let near = c.near_close-near.result in
    let next = c.in-Some.next in
    let end = c.in-Some-behind_delimiter.end in
    let first : Letter = letter_before text c.in-Some.byte next in
    let begun = c.in-Some-behind_delimiter.ensures in
    let count = letter_count text near c.in-Some.byte next c.in-Some.ensures in
    let more = begins_count text next end name begun.0 begun.1 in (
      c.loop-byte.invariant.same ∙ (c.near_close-near.ensures.same name
          ∙ close_found name first (letters_at text near) (letters_at text next) (letters_at text end) c.in-Some.ensures.is c.if-byte-eq41.true begun.0 begun.1),
      omega (arith, c.near_close-near.ensures.count, c.near_close-near.ensures.on, count, more, length-append c.args.delimiter.now (34 ∷ [])),
      omega (arith, c.near_close-near.ensures.on, c.in-Some.ensures.on, begun.2, length-append c.args.delimiter.now (34 ∷ [])),
      begun.3,
    )
