use denote.Param.Send.{sendable}
use Rattle.rx_exec_messages.proofs.Crossing.{script_send}
use Rattle.run_rows.proofs.runs.serve.Goals as goal

pub serve_desk-transcript-requires-send-C : goal.serve_desk-transcript-requires-send-C
serve_desk-transcript-requires-send-C g c κs within = search (script_send, sendable)
