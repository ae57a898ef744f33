use Rattle.rx_world.specs.declared.looks.Look.TheVariants.{File}
use Rattle.rx_reach.specs.Scenes.{Always}
use Rattle.rx_reach.proofs.ScanLemmas.{scans-say}
use Rattle.rx_scan.proofs.DigestLemmas.{digest-read, seen-again}
use Rattle.rx_scan.proofs.digests.read_digest.Goals as goal

pub keep-requires : goal.keep-requires
keep-requires g c = λ honest.
    let file = c.args.file.now in
    let read = c.in_ok-bytes in
    let is = seen-again c.args.sights.now c.read_file.new.sights read.ensures.ok.answers file.path (File file.stamp file.executable) read.field-0-0 c.requires read.ensures.ok.notes read.ensures.seen in
    digest-read g.W.World.content file.path read.bytes c.as_slice.result.now read.field-0-0 file.stamp file.executable c.digest_of-digest.result is (read.ensures.honest honest) c.as_slice.ensures c.digest_of-digest.ensures

pub returns-clause-ok : goal.returns-clause-ok
returns-clause-ok g c = scans-say _ _ _ _ _ _ _ Always c.in_ok-bytes.ensures.ok (λ scene a. tt)
