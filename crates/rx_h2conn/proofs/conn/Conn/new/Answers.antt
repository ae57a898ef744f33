use Rattle.rx_h2conn.proofs.StartLemmas.{started_cutting, started_output, started_streams, started_bytes, started_window, started_stream_window, started_hears, started_restores, started_fits, started_blocks}
use Rattle.rx_h2conn.proofs.conn.Conn.new.Goals as goal

pub returns-clause-any_cutting : goal.returns-clause-any_cutting
returns-clause-any_cutting c = started_cutting c.start.result

pub returns-clause-output : goal.returns-clause-output
returns-clause-output c = started_output c.start.result

pub returns-clause-streams : goal.returns-clause-streams
returns-clause-streams c = started_streams c.start.result

pub returns-clause-bytes : goal.returns-clause-bytes
returns-clause-bytes c = started_bytes c.start.result

pub returns-clause-window : goal.returns-clause-window
returns-clause-window c = started_window c.start.result

pub returns-clause-stream_window : goal.returns-clause-stream_window
returns-clause-stream_window c = started_stream_window c.start.result c.start.ensures

pub returns-clause-heard : goal.returns-clause-heard
returns-clause-heard c = started_hears c.start.result c.start.ensures

pub returns-clause-restores : goal.returns-clause-restores
returns-clause-restores c = started_restores c.start.result c.start.ensures

pub returns-clause-fits : goal.returns-clause-fits
returns-clause-fits c = started_fits c.start.result c.start.ensures

pub returns-clause-blocks : goal.returns-clause-blocks
returns-clause-blocks c = started_blocks c.start.result
