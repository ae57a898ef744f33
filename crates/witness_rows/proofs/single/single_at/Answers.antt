use denote.Param.Send.{sendable}
use Rattle.std.proofs.Common.{◌≡◌, List, ap, refl, subst, sym, ◌∙◌}
use Rattle.std.specs.Prelude.{Ok, Some}
use Rattle.rx_board.specs.declared.journal.Entry.{Entry}
use Rattle.rx_board.specs.Journal.{AreNumberedFrom}
use Rattle.rx_engine.specs.Answers.{asked_of}
use Rattle.rx_engine.specs.Honest.{IsCleanIfDone}
use Rattle.rx_session.specs.Frames.{IsRequest}
use Rattle.rx_world.specs.Toy.{toy_tool}
use Rattle.witness_rows.specs.Single.{single_frame, single_outcome, single_request, single_tree}
use Rattle.rx_exec_messages.proofs.Crossing.{script_send}
use Rattle.witness_rows.proofs.Both.{one_left, uncounted}
use Rattle.witness_rows.proofs.Decoded.{single_decoded}
use Rattle.witness_rows.proofs.OutcomeLemmas.{outcome-if-done}
use Rattle.witness_rows.proofs.SinglePremises.{honest, quiet, single-only}
use Rattle.witness_rows.proofs.single.single_at.Goals as goal

pub serve_session-transcript-requires-send-D-C : goal.serve_session-transcript-requires-send-D-C
serve_session-transcript-requires-send-D-C g c κs within = search (script_send, sendable)

pub returns-clause-done : goal.returns-clause-done
returns-clause-done g c stamps =
    c.serve_session-transcript.ensures.complete single_frame single_request
    (quiet _ _ _ _
    (record {
      tools = tt;
      told = ap Some (c.desk_of-desk.ensures.told ∙ c.in_ok-frame.ensures);
      valid = subst (λ root. IsRequest root single_frame single_request) (sym c.in_ok-shared.ensures.root) single_decoded;
      listed = ap Some (c.desk_of-desk.ensures.tree ∙ c.in_ok-tree.ensures);
      kept_list = tt;
      local_listed = ap Some (c.desk_of-desk.ensures.tree_local ∙ c.in_ok-tree_local.ensures);
      local_kept = tt;
    })
    stamps refl uncounted uncounted uncounted uncounted)
    (record { room = λ full. one_left _ _ c.in_ok-shared.ensures.journal c.in_ok-shared.ensures.limit full; place = uncounted })

pub returns-clause-clean : goal.returns-clause-clean
returns-clause-clean g c stamps =
    let served = c.serve_session-transcript.ensures.clean single_frame single_request single_tree
    (honest _ _ _
    (record {
      tools = tt;
      told = ap Some (c.desk_of-desk.ensures.told ∙ c.in_ok-frame.ensures);
      valid = subst (λ root. IsRequest root single_frame single_request) (sym c.in_ok-shared.ensures.root) single_decoded;
      listed = ap Some (c.desk_of-desk.ensures.tree ∙ c.in_ok-tree.ensures);
      kept_list = tt;
      local_listed = ap Some (c.desk_of-desk.ensures.tree_local ∙ c.in_ok-tree_local.ensures);
      local_kept = tt;
    })) in
    subst (λ (old : List Entry). IsCleanIfDone toy_tool single_tree (asked_of single_request) old c.into_parts-journal.result.1.items c.serve_session-transcript.result.0)
    c.in_ok-shared.ensures.journal
    (subst (λ (new : List Entry). IsCleanIfDone toy_tool single_tree (asked_of single_request) c.in_ok-shared.shared.board.journal new c.serve_session-transcript.result.0)
    (sym c.into_parts-journal.ensures.journal) served)

pub returns-clause-tells : goal.returns-clause-tells
returns-clause-tells g c stamps =
    outcome-if-done single_outcome single_tree (asked_of single_request) c.into_parts-journal.result.1.items c.serve_session-transcript.result.0 single-only
    c.serve_session-transcript.ensures.number (subst (AreNumberedFrom 1) (sym c.into_parts-journal.ensures.journal) c.into_parts-journal.ensures.numbered)
    (returns-clause-clean g c stamps)
