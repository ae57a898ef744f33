use Rattle.std.proofs.Common.{◌≡◌, ◌⊎◌, ◌∙◌, inl, inr, sym, subst, arith, rules, length, slice_index}
use Rattle.rx_base.proofs.SortedSearch.{first_found, none_found, NoUpper, NoUpper-start, NoUpper-more}
use Rattle.rx_base.proofs.sorted_paths.first_above.Goals as goal
use Rattle.rx_base.proofs.sorted_paths.first_above.Goals.{then-at-eq0+in_default, then-at-eq0-via-then-at-eq0, then-at-eq0-via-else-at-eq0+then-byte-eq47, else-at-eq0+else-byte-eq47}

pub loop-at-init : goal.loop-at-init
loop-at-init c = NoUpper-start c.args.paths.now c.args.path.now

pub returns-in-Some : goal.returns-in-Some
returns-in-Some c =
    let text = c.as_bytes-text.ensures.value ∙ c.as_str.ensures.text in
    let found = rw (c.split_at.ensures.front, text) at c.in-Some.ensures in
    let upper : (c.loop-at.at ≡ 0) ⊎ (slice_index c.args.path.now c.loop-at.at ≡ 47) = elim c.then-at-eq0.branch [
      | then-at-eq0-via-then-at-eq0 w ↦ inl (search rules)
      | then-at-eq0-via-else-at-eq0+then-byte-eq47 w ↦ inr (rw text at w.if-byte-eq47.true)
    ] in
    sym (first_found c.args.paths.now c.requires c.args.path.now c.loop-at.at c.in-Some.found c.loop-at.invariant (rw text at c.loop-at-test.true) upper (sym found))

pub loop-at-preserved : goal.loop-at-preserved
loop-at-preserved c =
    let text = c.as_bytes-text.ensures.value ∙ c.as_str.ensures.text in
    NoUpper-more c.args.paths.now c.args.path.now c.loop-at.at c.loop-at.invariant (λ upper. elim c.if-at-eq0.branch [
      | then-at-eq0+in_default w ↦ sym (rw (w.split_at.ensures.front, text) at w.index_of.ensures) ∙ w.in_default.is
      | else-at-eq0+else-byte-eq47 w ↦ elim upper [
        | inl root ↦ absurd (w.if-at-eq0.false root)
        | inr slash ↦ absurd (w.if-byte-eq47.false (rw text slash))
      ]
    ])

pub returns : goal.returns
returns c =
    let text = c.as_bytes-text.ensures.value ∙ c.as_str.ensures.text in
    let end : c.loop-at.at ≡ length c.as_bytes-text.result.now = omega arith in
    sym (none_found c.args.paths.now c.requires c.args.path.now (rw text at (subst (λ n. NoUpper c.args.paths.now c.args.path.now n) end c.loop-at.invariant)))
