use Rattle.std.proofs.Common.{◌≡◌, ◌+◌, ◌<◌, ◌≤◌, [], ap, append-nil, arith, length, sym, ◌∙◌}
use Rattle.std.proofs.lemmas.Result.{err_from_is_err_and}
use Rattle.rx_session.specs.declared.frames.Incoming.{Incoming}
use Rattle.rx_session.specs.declared.headers.Head.{Head}
use Rattle.rx_session.specs.declared.requests.Request.{Request}
use Rattle.rx_session.specs.Frames.{or_request}
use Rattle.rx_session.proofs.FrameLemmas.{bare_ok, bare_told, header_refused, incoming_of-header, reach-shutdown, reach-told, reads_join, reads_whole, shutdown_decodes, within_alone, within_cut, within_refused, within_trailing, within_watched}
use Rattle.rx_session.proofs.frames.read_incoming.Goals as goal

pub returns-in_err-head-clause-incoming : goal.returns-in_err-head-clause-incoming
returns-in_err-head-clause-incoming g c =
    let p = err_from_is_err_and c.from_residual-in_err-head.result c.from_residual-in_err-head.ensures.1 in
    let told = rw c.deref.ensures.value at c.in_err-head.ensures.head in
    rw (p.1, p.2) (header_refused (λ (x : Head). x) (λ (x : Incoming). x) _ _ _ told)

pub returns-then-len-clause-incoming : goal.returns-then-len-clause-incoming
returns-then-len-clause-incoming g c =
    let told = rw (c.deref.ensures.value, c.in-Request.is) at c.in_ok-head.ensures.head in
    let whole = c.read_up_to-2.new.read.ok.0 in
    let size : c.len-then-len.result ≡ length c.read_up_to-2.new.read.items = c.len-then-len.ensures ∙ whole in
    let lt : length c.read_up_to-2.new.read.items < 5 + c.in-Request.len = omega (arith, whole, c.len.ensures) in
    rw (c.refuse.ensures, size) (incoming_of-header _ _ _ _ _ told c.in_ok-read_up_to-2.ensures.read.grown ∙ ap or_request (within_cut _ _ _ lt))

pub returns-in_err-request-clause-incoming : goal.returns-in_err-request-clause-incoming
returns-in_err-request-clause-incoming g c =
    let p = err_from_is_err_and c.from_residual-in_err-request.result c.from_residual-in_err-request.ensures.1 in
    let told = rw (c.deref.ensures.value, c.in-Request.is) at c.in_ok-head.ensures.head in
    let refused = rw (c.split_at.ensures.back, c.deref-2.ensures.value) at c.in_err-request.ensures.request in
    let size : length c.read_up_to-2.new.read.items ≡ 5 + c.in-Request.len =
    omega (arith, c.read_up_to-2.new.read.ok.0, c.len.ensures, c.in_ok-read_up_to-2.ensures.most, c.in_ok-read_up_to.ensures.most, c.clear.ensures.len) in
    rw (p.1, p.2, incoming_of-header _ _ _ _ _ told c.in_ok-read_up_to-2.ensures.read.grown) (within_refused (λ (x : Request). x) (λ (x : Incoming). x) _ _ _ _ size refused)

pub returns-in_err-read_up_to-3-clause-read : goal.returns-in_err-read_up_to-3-clause-read
returns-in_err-read_up_to-3-clause-read g c =
    let front = reads_join _ _ _ _ _ _ c.in_ok-read_up_to.ensures.read c.in_ok-read_up_to-2.ensures.read in
    reads_whole _ _ _ _ c.clear.ensures.items (reads_join _ _ _ _ _ _ front c.in_err-read_up_to-3.ensures.read)

pub returns-then-len-2-clause-read : goal.returns-then-len-2-clause-read
returns-then-len-2-clause-read g c =
    let front = reads_join _ _ _ _ _ _ c.in_ok-read_up_to.ensures.read c.in_ok-read_up_to-2.ensures.read in
    reads_whole _ _ _ _ c.clear.ensures.items (reads_join _ _ _ _ _ _ front c.in_ok-read_up_to-3.ensures.read)

pub returns-then-len-2-clause-incoming : goal.returns-then-len-2-clause-incoming
returns-then-len-2-clause-incoming g c =
    let told = rw (c.deref.ensures.value, c.in-Request.is) at c.in_ok-head.ensures.head in
    let payload = rw (c.split_at.ensures.back, c.deref-2.ensures.value) at c.in_ok-request.ensures.request in
    let size : length c.read_up_to-2.new.read.items ≡ 5 + c.in-Request.len =
    omega (arith, c.read_up_to-2.new.read.ok.0, c.len.ensures, c.in_ok-read_up_to-2.ensures.most, c.in_ok-read_up_to.ensures.most, c.clear.ensures.len) in
    let past : 5 + c.in-Request.len < length c.read_up_to-3.new.read.items = omega (arith, c.read_up_to-3.new.read.ok.0, c.len-2.ensures) in
    let more = reads_join _ _ _ _ _ _ c.in_ok-read_up_to-2.ensures.read c.in_ok-read_up_to-3.ensures.read in
    rw c.refuse-then-len-2.ensures
    (incoming_of-header _ _ _ _ _ told more.grown ∙ ap or_request (within_trailing _ _ _ _ _ _ size c.in_ok-read_up_to-3.ensures.read.grown payload c.if-request.false past))

pub returns-clause-read : goal.returns-clause-read
returns-clause-read g c =
    let front = reads_join _ _ _ _ _ _ c.in_ok-read_up_to.ensures.read c.in_ok-read_up_to-2.ensures.read in
    reads_whole _ _ _ _ c.clear.ensures.items (reads_join _ _ _ _ _ _ front c.in_ok-read_up_to-3.ensures.read)

pub returns-clause-incoming : goal.returns-clause-incoming
returns-clause-incoming g c =
    let told = rw (c.deref.ensures.value, c.in-Request.is) at c.in_ok-head.ensures.head in
    let payload = rw (c.split_at.ensures.back, c.deref-2.ensures.value) at c.in_ok-request.ensures.request in
    let size : length c.read_up_to-2.new.read.items ≡ 5 + c.in-Request.len =
    omega (arith, c.read_up_to-2.new.read.ok.0, c.len.ensures, c.in_ok-read_up_to-2.ensures.most, c.in_ok-read_up_to.ensures.most, c.clear.ensures.len) in
    let within : length c.read_up_to-3.new.read.items ≤ 5 + c.in-Request.len = omega (arith, c.read_up_to-3.new.read.ok.0, c.len-2.ensures) in
    let more = reads_join _ _ _ _ _ _ c.in_ok-read_up_to-2.ensures.read c.in_ok-read_up_to-3.ensures.read in
    incoming_of-header _ _ _ _ _ told more.grown ∙ ap or_request (within_alone _ _ _ _ _ _ size c.in_ok-read_up_to-3.ensures.read.grown payload c.if-request.false within)

pub returns-in_err-read_up_to-2-clause-reach : goal.returns-in_err-read_up_to-2-clause-reach
returns-in_err-read_up_to-2-clause-reach g c =
    let told = rw (c.deref.ensures.value, c.in-Request.is) at c.in_ok-head.ensures.head in
    let within : length c.read_up_to-2.new.read.items ≤ 5 + c.in-Request.len + 1 =
    omega (arith, c.read_up_to-2.new.read.ok.0, c.in_err-read_up_to-2.ensures.most, c.in_ok-read_up_to.ensures.most, c.clear.ensures.len) in
    reach-told _ _ _ _ told c.in_err-read_up_to-2.ensures.read.grown within

pub returns-then-len-clause-reach : goal.returns-then-len-clause-reach
returns-then-len-clause-reach g c =
    let told = rw (c.deref.ensures.value, c.in-Request.is) at c.in_ok-head.ensures.head in
    let within : length c.read_up_to-2.new.read.items ≤ 5 + c.in-Request.len + 1 =
    omega (arith, c.read_up_to-2.new.read.ok.0, c.in_ok-read_up_to-2.ensures.most, c.in_ok-read_up_to.ensures.most, c.clear.ensures.len) in
    reach-told _ _ _ _ told c.in_ok-read_up_to-2.ensures.read.grown within

pub returns-in_err-request-clause-reach : goal.returns-in_err-request-clause-reach
returns-in_err-request-clause-reach g c =
    let told = rw (c.deref.ensures.value, c.in-Request.is) at c.in_ok-head.ensures.head in
    let within : length c.read_up_to-2.new.read.items ≤ 5 + c.in-Request.len + 1 =
    omega (arith, c.read_up_to-2.new.read.ok.0, c.in_ok-read_up_to-2.ensures.most, c.in_ok-read_up_to.ensures.most, c.clear.ensures.len) in
    reach-told _ _ _ _ told c.in_ok-read_up_to-2.ensures.read.grown within

pub returns-in_err-read_up_to-3-clause-reach : goal.returns-in_err-read_up_to-3-clause-reach
returns-in_err-read_up_to-3-clause-reach g c =
    let told = rw (c.deref.ensures.value, c.in-Request.is) at c.in_ok-head.ensures.head in
    let within : length c.read_up_to-3.new.read.items ≤ 5 + c.in-Request.len + 1 =
    omega (arith, c.read_up_to-3.new.read.ok.0, c.in_err-read_up_to-3.ensures.most, c.in_ok-read_up_to-2.ensures.most, c.in_ok-read_up_to.ensures.most, c.clear.ensures.len) in
    reach-told _ _ _ _ told (reads_join _ _ _ _ _ _ c.in_ok-read_up_to-2.ensures.read c.in_err-read_up_to-3.ensures.read).grown within

pub returns-then-len-2-clause-reach : goal.returns-then-len-2-clause-reach
returns-then-len-2-clause-reach g c =
    let told = rw (c.deref.ensures.value, c.in-Request.is) at c.in_ok-head.ensures.head in
    let within : length c.read_up_to-3.new.read.items ≤ 5 + c.in-Request.len + 1 =
    omega (arith, c.read_up_to-3.new.read.ok.0, c.in_ok-read_up_to-3.ensures.most, c.in_ok-read_up_to-2.ensures.most, c.in_ok-read_up_to.ensures.most, c.clear.ensures.len) in
    reach-told _ _ _ _ told (reads_join _ _ _ _ _ _ c.in_ok-read_up_to-2.ensures.read c.in_ok-read_up_to-3.ensures.read).grown within

pub returns-clause-reach : goal.returns-clause-reach
returns-clause-reach g c =
    let told = rw (c.deref.ensures.value, c.in-Request.is) at c.in_ok-head.ensures.head in
    let within : length c.read_up_to-3.new.read.items ≤ 5 + c.in-Request.len + 1 =
    omega (arith, c.read_up_to-3.new.read.ok.0, c.in_ok-read_up_to-3.ensures.most, c.in_ok-read_up_to-2.ensures.most, c.in_ok-read_up_to.ensures.most, c.clear.ensures.len) in
    reach-told _ _ _ _ told (reads_join _ _ _ _ _ _ c.in_ok-read_up_to-2.ensures.read c.in_ok-read_up_to-3.ensures.read).grown within

pub returns-in-Shutdown-clause-read : goal.returns-in-Shutdown-clause-read
returns-in-Shutdown-clause-read g c =
    reads_whole _ _ _ _ c.clear.ensures.items (reads_join _ _ _ _ _ _ c.in_ok-read_up_to.ensures.read c.read_shutdown.ensures.read)

pub returns-in-Shutdown-clause-reach : goal.returns-in-Shutdown-clause-reach
returns-in-Shutdown-clause-reach g c =
    let told = rw (c.deref.ensures.value, c.in-Shutdown.is) at c.in_ok-head.ensures.head in
    reach-shutdown _ _ _ _ told c.read_shutdown.ensures.read.grown c.read_shutdown.ensures.reach

pub returns-in-Shutdown-clause-incoming : goal.returns-in-Shutdown-clause-incoming
returns-in-Shutdown-clause-incoming g c =
    let told = rw (c.deref.ensures.value, c.in-Shutdown.is) at c.in_ok-head.ensures.head in
    shutdown_decodes (λ (x : Incoming). x) _ _ _ _ _ _ told c.read_shutdown.ensures.read.grown c.read_shutdown.ensures.incoming

pub returns-in-Shutdown-clause-bare : goal.returns-in-Shutdown-clause-bare
returns-in-Shutdown-clause-bare g c =
    let told = rw (c.deref.ensures.value, c.in-Shutdown.is) at c.in_ok-head.ensures.head in
    bare_ok c.read_shutdown.result c.read_shutdown.new.read.items (bare_told _ _ _ _ told c.read_shutdown.ensures.read.grown c.read_shutdown.ensures.reach)

pub returns-then-request-clause-read : goal.returns-then-request-clause-read
returns-then-request-clause-read g c =
    reads_whole _ _ _ _ c.clear.ensures.items (reads_join _ _ _ _ _ _ c.in_ok-read_up_to.ensures.read c.in_ok-read_up_to-2.ensures.read)

pub returns-then-request-clause-reach : goal.returns-then-request-clause-reach
returns-then-request-clause-reach g c =
    let told = rw (c.deref.ensures.value, c.in-Request.is) at c.in_ok-head.ensures.head in
    let within : length c.read_up_to-2.new.read.items ≤ 5 + c.in-Request.len + 1 =
    omega (arith, c.read_up_to-2.new.read.ok.0, c.in_ok-read_up_to-2.ensures.most, c.in_ok-read_up_to.ensures.most, c.clear.ensures.len) in
    reach-told _ _ _ _ told c.in_ok-read_up_to-2.ensures.read.grown within

pub returns-then-request-clause-incoming : goal.returns-then-request-clause-incoming
returns-then-request-clause-incoming g c =
    let told = rw (c.deref.ensures.value, c.in-Request.is) at c.in_ok-head.ensures.head in
    let payload = rw (c.split_at.ensures.back, c.deref-2.ensures.value) at c.in_ok-request.ensures.request in
    let size : length c.read_up_to-2.new.read.items ≡ 5 + c.in-Request.len =
    omega (arith, c.read_up_to-2.new.read.ok.0, c.len.ensures, c.in_ok-read_up_to-2.ensures.most, c.in_ok-read_up_to.ensures.most, c.clear.ensures.len) in
    incoming_of-header _ _ _ _ _ told c.in_ok-read_up_to-2.ensures.read.grown
    ∙ ap or_request (within_watched _ _ _ _ [] _ size (sym (append-nil _)) payload c.if-request.true)

pub returns-then-request-clause-bare : goal.returns-then-request-clause-bare
returns-then-request-clause-bare g c =
    let told = rw (c.deref.ensures.value, c.in-Request.is) at c.in_ok-head.ensures.head in
    let within : length c.read_up_to-2.new.read.items ≤ 5 + c.in-Request.len =
    omega (arith, c.read_up_to-2.new.read.ok.0, c.in_ok-read_up_to-2.ensures.most, c.in_ok-read_up_to.ensures.most, c.clear.ensures.len) in
    bare_told _ _ _ _ told c.in_ok-read_up_to-2.ensures.read.grown within

pub returns-clause-bare : goal.returns-clause-bare
returns-clause-bare g c =
    let told = rw (c.deref.ensures.value, c.in-Request.is) at c.in_ok-head.ensures.head in
    let within : length c.read_up_to-3.new.read.items ≤ 5 + c.in-Request.len = omega (arith, c.read_up_to-3.new.read.ok.0, c.len-2.ensures) in
    bare_told _ _ _ _ told (reads_join _ _ _ _ _ _ c.in_ok-read_up_to-2.ensures.read c.in_ok-read_up_to-3.ensures.read).grown within
