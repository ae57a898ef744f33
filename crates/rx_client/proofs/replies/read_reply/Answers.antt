use Rattle.std.proofs.Common.{◌≡◌, ◌+◌, ◌<◌, ◌∙◌, arith, length, refl, sym}
use Rattle.rx_client.proofs.HeardLemmas.{no_header, payload_cut, payload_whole}
use Rattle.rx_client.proofs.replies.read_reply.Goals as goal

pub returns-in-None-clause-reply : goal.returns-in-None-clause-reply
returns-in-None-clause-reply g c =
    let told = rw c.deref.ensures.value at c.in-None.ensures.len in
    let size = c.read_up_to.new.read.ok.0 in
    no_header _ _ (sym told) (λ lt. c.in_ok-read_up_to.ensures.end (omega (arith, size, lt)))

pub returns-then-len-clause-reply : goal.returns-then-len-clause-reply
returns-then-len-clause-reply g c =
    let told = rw c.deref.ensures.value at c.in-Some.ensures.len in
    let size = c.read_up_to-2.new.read.ok.0 in
    let lt : length c.read_up_to-2.new.read.items < 5 + c.in-Some.len = omega (arith, size, c.len.ensures, c.if-len.true) in
    payload_cut _ _ _ _ _ (sym told) c.in_ok-read_up_to-2.ensures.read.grown lt
    (c.in_ok-read_up_to-2.ensures.end (omega (arith, size, lt)))

pub returns-in-Ok-clause-reply : goal.returns-in-Ok-clause-reply
returns-in-Ok-clause-reply g c =
    let told = rw c.deref.ensures.value at c.in-Some.ensures.len in
    let size : length c.read_up_to-2.new.read.items ≡ 5 + c.in-Some.len =
    omega (arith, c.read_up_to-2.new.read.ok.0, c.in_ok-read_up_to-2.ensures.most, c.in_ok-read_up_to.ensures.most, c.clear.ensures.len, c.len.ensures, c.if-len.false) in
    let back = rw (c.split_at.ensures.back, c.deref-2.ensures.value) at c.in-Ok.ensures.exact in
    payload_whole _ _ _ _ (g.S.Source.left c.read_up_to-2.new.source) (sym told) c.in_ok-read_up_to-2.ensures.read.grown size ∙ rw back refl

pub returns-in-Err-Wire-clause-reply : goal.returns-in-Err-Wire-clause-reply
returns-in-Err-Wire-clause-reply g c =
    let told = rw c.deref.ensures.value at c.in-Some.ensures.len in
    let size : length c.read_up_to-2.new.read.items ≡ 5 + c.in-Some.len =
    omega (arith, c.read_up_to-2.new.read.ok.0, c.in_ok-read_up_to-2.ensures.most, c.in_ok-read_up_to.ensures.most, c.clear.ensures.len, c.len.ensures, c.if-len.false) in
    let refused = rw c.in-Err-Wire.field-0-is at c.in-Err-Wire.ensures.exact in
    let back = rw (c.split_at.ensures.back, c.deref-2.ensures.value) at (refused (λ e. absurd (cc e))) in
    payload_whole _ _ _ _ (g.S.Source.left c.read_up_to-2.new.source) (sym told) c.in_ok-read_up_to-2.ensures.read.grown size ∙ rw back refl

pub returns-in-Err-BadReply-clause-reply : goal.returns-in-Err-BadReply-clause-reply
returns-in-Err-BadReply-clause-reply g c =
    let told = rw c.deref.ensures.value at c.in-Some.ensures.len in
    let size : length c.read_up_to-2.new.read.items ≡ 5 + c.in-Some.len =
    omega (arith, c.read_up_to-2.new.read.ok.0, c.in_ok-read_up_to-2.ensures.most, c.in_ok-read_up_to.ensures.most, c.clear.ensures.len, c.len.ensures, c.if-len.false) in
    let refused = rw c.in-Err-BadReply.field-0-is at c.in-Err-BadReply.ensures.exact in
    let back = rw (c.split_at.ensures.back, c.deref-2.ensures.value) at (refused (λ e. absurd (cc e))) in
    payload_whole _ _ _ _ (g.S.Source.left c.read_up_to-2.new.source) (sym told) c.in_ok-read_up_to-2.ensures.read.grown size ∙ rw back refl
