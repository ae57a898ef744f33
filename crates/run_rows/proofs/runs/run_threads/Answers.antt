use denote.Param.Send.{sendable}
use Rattle.rx_exec_messages.proofs.Crossing.{script_send}
use Rattle.run_rows.proofs.runs.run_threads.Goals as goal

pub run_front_in_threads-ran-requires-send-C : goal.run_front_in_threads-ran-requires-send-C
run_front_in_threads-ran-requires-send-C g c κs within = search (script_send, sendable)
