use Rattle.std.proofs.Common.{rules}
use Rattle.std.specs.Cmp.Lexicographic.{slice_cmp}
use Rattle.std.specs.Ordering.{nat_cmp}
use Rattle.std.proofs.lemmas.Fn.{always_returns_same}
use Rattle.rx_scan.proofs.DigestLemmas.{file-found}
use Rattle.rx_scan.proofs.digests.file_at.Goals as goal

pub returns : goal.returns
returns c =
    file-found c.args.files.now c.args.path.now c.binary_search_by-found.result c.in_ok-ok.field-0 c.get.result
    (c.binary_search_by-found.ensures.position (λ file. slice_cmp nat_cmp file.path c.args.path.now) (always_returns_same _ _ _ (λ a r f k. search rules)))
    c.in_ok-ok.ensures.value c.get.ensures.lookup
