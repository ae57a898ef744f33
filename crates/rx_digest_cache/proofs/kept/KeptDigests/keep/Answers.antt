use Rattle.std.proofs.Common.{rules, length, sym, ◌∙◌}
use Rattle.rx_digest_cache.proofs.KeptLemmas.{keeps-updated, still-within, tied-kept}
use Rattle.rx_digest_cache.proofs.kept.KeptDigests.keep.Goals as goal

pub returns-in-Some-clause-kept : goal.returns-in-Some-clause-kept
returns-in-Some-clause-kept g c =
    let written = c.get_mut.follows.holds c.args.entry in
    rw (sym c.self.view_is) (keeps-updated c.self.inside.entries (c.get_mut.follows.lender c.args.entry) c.args.path.now c.args.entry (written.3 (search rules)))

pub invariant_of-self : goal.invariant_of-self
invariant_of-self g c =
    let written = c.get_mut.follows.holds c.args.entry in
    let kept = keeps-updated c.self.inside.entries (c.get_mut.follows.lender c.args.entry) c.args.path.now c.args.entry (written.3 (search rules)) in (
      rw written.2 c.self.invariant.0,
      λ honest. tied-kept g.W.World.content _ _ c.args.path.now c.args.entry (c.self.invariant.1 honest) (c.requires honest) kept,
    )

pub returns-clause-kept : goal.returns-clause-kept
returns-clause-kept g c =
    rw (sym c.self.view_is)
    (keeps-updated c.self.inside.entries c.insert.new.self c.args.path.now c.args.entry
    (rw (c.get_mut.follows.holds-at-none, c.in_ok-path.ensures) at c.in_ok-insert.ensures.updates))

pub invariant_of-self-2 : goal.invariant_of-self-2
invariant_of-self-2 g c =
    let same = c.get_mut.follows.holds-at-none in
    let kept =
    keeps-updated c.self.inside.entries c.insert.new.self c.args.path.now c.args.entry
    (rw (same, c.in_ok-path.ensures) at c.in_ok-insert.ensures.updates)
    in (
      still-within c.in_ok-insert.field-0 (length c.self.inside.entries.entries) _ _ (rw same at c.in_ok-insert.ensures.len) (λ full. c.if-len-self.false (c.len.ensures.len ∙ rw same full)) c.self.invariant.0,
      λ honest. tied-kept g.W.World.content _ _ c.args.path.now c.args.entry (c.self.invariant.1 honest) (c.requires honest) kept,
    )
