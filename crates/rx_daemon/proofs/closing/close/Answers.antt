use Rattle.std.proofs.Common.{◌≡◌, ◌∙◌, ap, length, sym, true}
use Rattle.std.proofs.lemmas.List.Sorted.{length_permutation}
use Rattle.rx_daemon.specs.Threads.{is_asked}
use Rattle.rx_daemon.proofs.AgreeLemmas.{agrees-always}
use Rattle.rx_daemon.proofs.ApartLemmas.{apart-in-threads, core-sorted}
use Rattle.rx_daemon.proofs.CoreRuns.{core-run}
use Rattle.rx_daemon.proofs.EndedLemmas.{not-false, served-told, status-told}
use Rattle.rx_daemon.proofs.ServeLemmas.{have-run}
use Rattle.rx_daemon.proofs.closing.close.Goals as goal

pub returns-clause-sessions : goal.returns-clause-sessions
returns-clause-sessions g c =
    let even = sym c.audit.ensures.taken.1 ∙ c.audit.ensures.taken.0 ∙ c.requires.even ∙ sym c.audit.ensures.concluded.0 ∙ c.audit.ensures.concluded.1 in
    have-run _ _ _ _ _ _ _ _ _ g.F.Front.gives _ g.K.Desks.gives _ _ _ _ _ _ _ _ _ _ _ _ _ _ c.into_parts-front.ensures c.into_parts-place.ensures.kept.2 even
    c.settle-served.ensures.same c.settle-served.ensures.numbered c.requires.back

pub returns-clause-core : goal.returns-clause-core
returns-clause-core g c = λ files.
    let kept = c.into_parts-place.ensures.kept.2 in
    let same = c.settle-served.ensures.same in
    core-sorted _ _ _ _ _ _ same (core-run _ _ _ _ _ _ files (apart-in-threads _ _ same c.settle-served.ensures.numbered) kept.linked)

pub returns-clause-always : goal.returns-clause-always
returns-clause-always g c =
    agrees-always _ _ _ _ _ _ _ c.settle-served.ensures.same c.settle-served.ensures.numbered c.into_parts-place.ensures.kept.2.linked

pub returns-clause-served : goal.returns-clause-served
returns-clause-served g c =
    let same = c.settle-served.ensures.same in
    let kept = c.into_parts-place.ensures.kept.2 in
    let even = sym c.audit.ensures.taken.1 ∙ c.audit.ensures.taken.0 ∙ c.requires.even ∙ sym c.audit.ensures.concluded.0 ∙ c.audit.ensures.concluded.1 in
    let count = even ∙ sym kept.each ∙ sym (length_permutation _ _ same) in
    let always = agrees-always _ _ _ _ _ _ _ same c.settle-served.ensures.numbered kept.linked in
    let agreed : c.agrees-agreed.result ≡ true = not-false _ (λ e. c.agrees-agreed.ensures.differs e (rw (c.deref.ensures.value, c.deref-2.ensures.value) always)) in
    rw (c.serving_status.ensures, agreed) (served-told _ _ _ _ g.F.Front.gives _ g.K.Desks.gives _ _ _ _ _ _ _ _ _ _ c.into_parts-front.ensures count)

pub returns-clause-status : goal.returns-clause-status
returns-clause-status g c =
    let same = c.settle-served.ensures.same in
    let kept = c.into_parts-place.ensures.kept.2 in
    let even = sym c.audit.ensures.taken.1 ∙ c.audit.ensures.taken.0 ∙ c.requires.even ∙ sym c.audit.ensures.concluded.0 ∙ c.audit.ensures.concluded.1 in
    let count = even ∙ sym kept.each ∙ sym (length_permutation _ _ same) in
    let always = agrees-always _ _ _ _ _ _ _ same c.settle-served.ensures.numbered kept.linked in
    let agreed : c.agrees-agreed.result ≡ true = not-false _ (λ e. c.agrees-agreed.ensures.differs e (rw (c.deref.ensures.value, c.deref-2.ensures.value) always)) in
    let asked : c.any_asked.result ≡ is_asked c.settle-served.result.items = c.any_asked.ensures ∙ ap is_asked c.deref-3.ensures.value in
    rw (c.serving_status.ensures, agreed, ← asked) (status-told _ _ _ _ g.F.Front.gives _ g.K.Desks.gives _ _ _ _ _ _ _ _ _ _ c.into_parts-front.ensures count)
