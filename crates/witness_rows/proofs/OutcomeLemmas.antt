-- A Done that is a clean run tells the one outcome that is clean.
use Rattle.std.proofs.Common.{◌≡◌, ℕ, List, [], ◌∷◌, length, ap, sym, subst, ◌∙◌}
use Rattle.std.specs.Prelude.{Some}
use Rattle.rx_board.specs.declared.journal.Entry.{Entry}
use Rattle.rx_board.specs.Journal.{AreNumberedFrom}
use Rattle.rx_engine.specs.declared.transcripts.Transcript.{Transcript}
use Rattle.rx_engine.specs.Answers.{done_reply}
use Rattle.rx_engine.specs.Honest.{IsCleanFrom, IsCleanIfDone, whole_entry}
use Rattle.rx_scan.specs.Gathering.{Asked}
use Rattle.rx_session.specs.declared.replies.Reply.TheVariants as reply
use Rattle.rx_world.specs.declared.outcomes.Outcome.{Outcome}
use Rattle.rx_world.specs.declared.sources.SourceEntry.{SourceEntry}
use Rattle.rx_world.specs.Toy.{toy_tool}
use Rattle.witness_rows.specs.Outcomes.{IsOutcomeIfDone}

pub outcome-if-done : (outcome : Outcome) (entries : List SourceEntry) (asked : Asked) (journal : List Entry) (t : Transcript)
    → ((o : Outcome) → IsCleanFrom toy_tool entries asked o → o ≡ outcome) → t.number ≡ 1 → AreNumberedFrom 1 journal
    → IsCleanIfDone toy_tool entries asked [] journal t → IsOutcomeIfDone outcome journal t.reply
outcome-if-done outcome entries asked journal t only first numbered clean exit stdout stderr from number placed e =
    let d = clean exit stdout stderr from number placed e in
    let is : d.won.outcome ≡ outcome = only d.won.outcome d.clean in
    let told : Some (reply.Done exit stdout stderr from number placed) ≡ Some (done_reply d.won number) = sym e ∙ d.reply_is in
    let known : Some (done_reply d.won number) ≡ Some (reply.Done outcome.exit.code outcome.exit.stdout outcome.exit.stderr d.won.origin number (length outcome.files)) =
    ap (λ (o : Outcome). Some (reply.Done o.exit.code o.exit.stdout o.exit.stderr d.won.origin number (length o.files))) is in
    let both : Some (reply.Done exit stdout stderr from number placed)
    ≡ Some (reply.Done outcome.exit.code outcome.exit.stdout outcome.exit.stderr d.won.origin number (length outcome.files)) = told ∙ known in
    let own = subst (AreNumberedFrom 1) d.entry numbered in
    record {
      code_is = cc;
      stdout_is = cc;
      stderr_is = cc;
      placed_is = cc;
      journal_is =
          d.entry ∙ ap (λ (o : Outcome). whole_entry number t.number o ∷ []) is
          ∙ ap (λ (n : ℕ). whole_entry n t.number outcome ∷ []) own.0
          ∙ ap (λ (n : ℕ). whole_entry 1 n outcome ∷ []) first;
    }
