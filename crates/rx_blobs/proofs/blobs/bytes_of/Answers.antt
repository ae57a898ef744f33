use Rattle.rx_blobs.proofs.UploadReads.{file-failed}
use Rattle.rx_blobs.proofs.blobs.bytes_of.Goals as goal

pub returns-in-Err-read_again-clause-read : goal.returns-in-Err-read_again-clause-read
returns-in-Err-read_again-clause-read g c =
    rw (c.of_read.ensures, c.in-File.is)
    (file-failed g.W.World g.S.Sources c.args.sources.now c.read_again.new.sources c.in-File.file c.in-Err-read_again.fault c.in-Err-read_again.ensures.err)
