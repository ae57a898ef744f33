use Rattle.std.proofs.Common.{sym}
use Rattle.std.proofs.lemmas.List.{take_all}
use Rattle.rx_grpc.proofs.uploads.front_of.Goals as goal

pub returns-then-bytes-le-PIECE : goal.returns-then-bytes-le-PIECE
returns-then-bytes-le-PIECE c = sym (take_all 65536 c.args.bytes.now c.if-bytes-le-PIECE.true)
