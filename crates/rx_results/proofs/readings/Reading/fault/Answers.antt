use Rattle.std.proofs.Common.{◌∙◌, sym}
use Rattle.rx_results.proofs.FaultLemmas.{absent-fault, large-fault, no-fault, repeated-fault, unnamed-fault}
use Rattle.rx_results.proofs.readings.Reading.fault.Goals as goal

pub returns-then-is_any_repeated : goal.returns-then-is_any_repeated
returns-then-is_any_repeated c command given reading =
    let repeated = sym (rw c.as_slice-outputs.ensures at c.is_any_repeated.ensures) in
    repeated-fault command given c.args.self.now reading (repeated ∙ c.if-is_any_repeated.true)

pub returns-then-is_any_absent : goal.returns-then-is_any_absent
returns-then-is_any_absent c command given reading =
    let repeated = sym (rw c.as_slice-outputs.ensures at c.is_any_repeated.ensures) in
    let absent = sym (rw c.as_slice-outputs.ensures at c.is_any_absent.ensures) in
    absent-fault command given c.args.self.now reading (repeated
    ∙ c.if-is_any_repeated.false) (absent ∙ c.if-is_any_absent.true)

pub returns-then-has_any_no_digest : goal.returns-then-has_any_no_digest
returns-then-has_any_no_digest c command given reading =
    let repeated = sym (rw c.as_slice-outputs.ensures at c.is_any_repeated.ensures) in
    let absent = sym (rw c.as_slice-outputs.ensures at c.is_any_absent.ensures) in
    let unnamed = sym (rw c.as_slice-outputs.ensures at c.has_any_no_digest.ensures) in
    unnamed-fault command given c.args.self.now reading (repeated
    ∙ c.if-is_any_repeated.false) (absent ∙ c.if-is_any_absent.false)
    (unnamed ∙ c.if-has_any_no_digest.true)

pub returns-then-is_too_large : goal.returns-then-is_too_large
returns-then-is_too_large c command given reading =
    let repeated = sym (rw c.as_slice-outputs.ensures at c.is_any_repeated.ensures) in
    let absent = sym (rw c.as_slice-outputs.ensures at c.is_any_absent.ensures) in
    let unnamed = sym (rw c.as_slice-outputs.ensures at c.has_any_no_digest.ensures) in
    large-fault command given c.args.self.now reading (repeated
    ∙ c.if-is_any_repeated.false) (absent ∙ c.if-is_any_absent.false)
    (unnamed ∙ c.if-has_any_no_digest.false) (sym c.is_too_large.ensures ∙ c.if-is_too_large.true)

pub returns : goal.returns
returns c command given reading =
    let repeated = sym (rw c.as_slice-outputs.ensures at c.is_any_repeated.ensures) in
    let absent = sym (rw c.as_slice-outputs.ensures at c.is_any_absent.ensures) in
    let unnamed = sym (rw c.as_slice-outputs.ensures at c.has_any_no_digest.ensures) in
    no-fault command given c.args.self.now reading (repeated ∙ c.if-is_any_repeated.false) (absent
    ∙ c.if-is_any_absent.false)
    (unnamed ∙ c.if-has_any_no_digest.false) (sym c.is_too_large.ensures ∙ c.if-is_too_large.false)
