use Rattle.std.proofs.Common.{refl, sym, ap, ◌∙◌, ◌++◌, ◌+◌, List, [], ◌∷◌, arith, length, drop, lit<, append-nil, append_assoc}
use Rattle.std.proofs.lemmas.List.{length_push, drop_all}
use Rattle.std.proofs.lemmas.Iterator.Consumers.{YieldsList-turn, YieldsList-end}
use Rattle.std.proofs.lemmas.Iterator.Splits.{YieldsList-from_str_split}
use Rattle.rx_base.specs.Paths.{parts, with_parts, with_text}
use Rattle.rx_reach.specs.declared.candidates.Step.{Step}
use Rattle.rx_reach.specs.Candidates.{names_of, steps}
use Rattle.rx_reach.proofs.PassLemmas.{lacks-at, short-more, part-leads, part-long, part-names, part-steps}
use Rattle.rx_base.proofs.PathParts.{parts-lack, parts-no_slash}
use Rattle.rx_reach.proofs.candidates.pass.Goals as goal

pub loop-part-init : goal.loop-part-init
unfolding with_text
loop-part-init c = record { path = c.requires.path; short = c.requires.short; steps_are = refl; names_are = refl }

pub pass_part-requires-clause-no_slash : goal.pass_part-requires-clause-no_slash
pass_part-requires-clause-no_slash c =
    let t = YieldsList-turn (YieldsList-from_str_split 47 c.args.text.now (lit< tt) (cc) (cc) (cc)) c.loop-part.yielded _ c.loop-part.yielded_by _ _ c.in-Some.part c.in-Some.is c.next.ensures.steps in
    lacks-at 47 (parts c.args.text.now) (length c.loop-part.yielded) c.in-Some.part.now (parts-no_slash c.args.text.now) t

pub pass_part-requires-clause-no_zero : goal.pass_part-requires-clause-no_zero
pass_part-requires-clause-no_zero c =
    let t = YieldsList-turn (YieldsList-from_str_split 47 c.args.text.now (lit< tt) (cc) (cc) (cc)) c.loop-part.yielded _ c.loop-part.yielded_by _ _ c.in-Some.part c.in-Some.is c.next.ensures.steps in
    lacks-at 0 (parts c.args.text.now) (length c.loop-part.yielded) c.in-Some.part.now (parts-lack 0 c.args.text.now c.requires.no_zero) t

pub pass_part-requires-clause-leads : goal.pass_part-requires-clause-leads
pass_part-requires-clause-leads c =
    let t = YieldsList-turn (YieldsList-from_str_split 47 c.args.text.now (lit< tt) (cc) (cc) (cc)) c.loop-part.yielded _ c.loop-part.yielded_by _ _ c.in-Some.part c.in-Some.is c.next.ensures.steps in
    part-leads (parts c.args.text.now) (names_of c.loop-part.walk.at) c.requires.leads.0 (length c.loop-part.yielded) c.in-Some.part.now t (c.loop-part.invariant.names_are ∙ c.requires.leads.1)

pub returns-in-None-2-clause-long : goal.returns-in-None-2-clause-long
returns-in-None-2-clause-long c = λ _ h.
    let t = YieldsList-turn (YieldsList-from_str_split 47 c.args.text.now (lit< tt) (cc) (cc) (cc)) c.loop-part.yielded _ c.loop-part.yielded_by _ _ c.in-Some.part c.in-Some.is c.next.ensures.steps in
    let long = c.in_ok-next.ensures.long c.in-None-2.is in
    part-long (parts c.args.text.now) (names_of c.loop-part.walk.at) c.requires.leads.0 (names_of c.args.walk.at) c.loop-part.walk.steps.items c.args.walk.steps.items (length c.loop-part.yielded) c.in-Some.part.now t
    (c.loop-part.invariant.names_are ∙ c.requires.leads.1) c.requires.leads.2 long.0 long.1 c.loop-part.invariant.steps_are c.requires.short h

pub loop-part-preserved : goal.loop-part-preserved
loop-part-preserved c =
    let t = YieldsList-turn (YieldsList-from_str_split 47 c.args.text.now (lit< tt) (cc) (cc) (cc)) c.loop-part.yielded _ c.loop-part.yielded_by _ _ c.in-Some.part c.in-Some.is c.next.ensures.steps in
    let s = rw c.in-Some-2.is at c.in_ok-next.ensures.steps in
    let n = rw c.in-Some-2.is at c.in_ok-next.ensures.names in
    let all = parts c.args.text.now in
    let here = names_of c.loop-part.walk.at in
    let there = names_of c.in-Some-2.next.at in
    let front = c.loop-part.walk.steps.items in
    let i = length c.loop-part.yielded in
    record {
      path = n.0;
      short = short-more front c.in-Some-2.next.steps.items c.loop-part.walk.at c.in-Some.part.now c.loop-part.invariant.path c.loop-part.invariant.short s;
      steps_are = rw length_push (
          ap (λ (more : List Step). more ++ steps there (drop (i + 1) all)) s ∙ append_assoc front (steps here (c.in-Some.part.now ∷ [])) (steps there (drop (i + 1) all))
          ∙ ap (λ (more : List Step). front ++ more) (sym (part-steps all here there i c.in-Some.part.now t n.1)) ∙ c.loop-part.invariant.steps_are);
      names_are = rw length_push (part-names all here there i c.in-Some.part.now t n.1 ∙ c.loop-part.invariant.names_are);
    }

pub returns-clause-steps : goal.returns-clause-steps
returns-clause-steps c =
    let t = YieldsList-end (YieldsList-from_str_split 47 c.args.text.now (lit< tt) (cc) (cc) (cc)) c.loop-part.yielded _ c.loop-part.yielded_by _ _ c.in-None.is c.next.ensures.steps in
    sym (append-nil c.loop-part.walk.steps.items)
    ∙ ap (λ rest. c.loop-part.walk.steps.items ++ steps (names_of c.loop-part.walk.at) rest) (sym (drop_all (length c.loop-part.yielded) (parts c.args.text.now) (omega (arith, t.1))))
    ∙ c.loop-part.invariant.steps_are

pub returns-clause-names : goal.returns-clause-names
unfolding with_parts
returns-clause-names c =
    let t = YieldsList-end (YieldsList-from_str_split 47 c.args.text.now (lit< tt) (cc) (cc) (cc)) c.loop-part.yielded _ c.loop-part.yielded_by _ _ c.in-None.is c.next.ensures.steps in
    (c.loop-part.invariant.path, sym c.loop-part.invariant.names_are ∙ ap (λ rest. with_parts (names_of c.loop-part.walk.at) rest) (drop_all (length c.loop-part.yielded) (parts c.args.text.now) (omega (arith, t.1))))
