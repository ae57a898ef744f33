use Rattle.rx_reach.proofs.seeks.seek_include.Goals as goal

pub returns-in_ok-seek_from-in-Quoted-clause-ok : goal.returns-in_ok-seek_from-in-Quoted-clause-ok
returns-in_ok-seek_from-in-Quoted-clause-ok g c = rw (c.in-Quoted.is, ← c.requires) (rw c.as_slice-bytes.ensures.value at c.in_ok-seek_from-in-Quoted.ensures.ok)

pub returns-in_ok-seek_in-in-Angled-clause-ok : goal.returns-in_ok-seek_in-in-Angled-clause-ok
returns-in_ok-seek_in-in-Angled-clause-ok g c = rw c.in-Angled.is (rw (c.as_slice-both.ensures, c.as_slice-bytes-in-Angled.ensures.value) at c.in_ok-seek_in-in-Angled.ensures.ok)
