-- The output is the frames of the calls.
use Rattle.std.proofs.Common.{◌≡◌, ℕ, Bool, not, ◌&&◌, List, [], ◌∷◌, ◌++◌, refl, sym, ap, ◌∙◌, Option, None, Some, append_assoc, append-nil}
use Rattle.rx_hpack.specs.Header.{Field}
use Rattle.rx_h2frame.specs.Write.{Out, out_bytes}
use Rattle.rx_h2conn.specs.declared.fault.ConnFault.{ConnFault}
use Rattle.rx_h2conn.specs.Session.{Session, Reading, Queued}
use Rattle.rx_h2conn.specs.Streams.{is_open, stream_at}
use Rattle.rx_h2conn.specs.Data.{owe}
use Rattle.rx_h2conn.specs.Steps.{handed, unless_failed, broken}
use Rattle.rx_h2conn.specs.Emitted.{bytes_of, outs_unless}
use Rattle.rx_h2conn.specs.Open.{refusal, opened, header_frames}
use Rattle.rx_h2conn.specs.Output.{sent, send_frames, reset, reset_frame, output}
use Rattle.rx_h2conn.specs.History.{Call, Feeds, Starves, Hands, Takes, Opens, Sends, Resets, after, run, unless, emitted, all_emitted, given, all_given}
use Rattle.rx_h2conn.proofs.ListLemmas.{either}
use Rattle.rx_h2conn.proofs.TookLemmas.{bytes_of-append}
use Rattle.rx_h2conn.proofs.FedLemmas.{adds_fed}

pub owe-queued : (s : Session) (id credit : ℕ) → (owe s id credit).queued ≡ s.queued
unfolding owe
owe-queued s id credit = either (λ (t : Session). t.queued ≡ s.queued) (is_open s id && not (stream_at s id).client_reset) _ _ (λ _. refl) (λ _. refl)

pub handed-queued : (s : Session) (qs : List Queued) → (handed s qs).queued ≡ s.queued
handed-queued s [] = refl
handed-queued s (q ∷ qs) = owe-queued (record s { events = qs }) q.stream q.credit

pub added_unless : (o : Option ConnFault) (s new : Session) (outs : List Out) → new.queued ≡ s.queued ++ bytes_of outs → (unless o s new).queued ≡ s.queued ++ bytes_of (outs_unless o outs)
added_unless None s new outs h = h
added_unless (Some e) s new outs h = sym (append-nil s.queued)

pub opened-queued : (s : Session) (fields : List Field) (last : Bool) → (opened s fields last).queued ≡ s.queued ++ bytes_of (header_frames s fields last)
unfolding opened
opened-queued s fields last = refl

pub sent-queued : (s : Session) (id : ℕ) (piece : List ℕ) (last : Bool) → (sent s id piece last).queued ≡ s.queued ++ bytes_of (send_frames s id piece last)
unfolding sent
sent-queued s id piece last = refl

pub reset-queued : (s : Session) (id code : ℕ) → (reset s id code).queued ≡ s.queued ++ bytes_of (reset_frame id code ∷ [])
unfolding reset
reset-queued s id code = ap (λ (x : List ℕ). s.queued ++ x) (sym (append-nil (out_bytes (reset_frame id code))))

pub starved-queued : (o : Option ConnFault) (r : Reading) → (unless_failed o r (broken r)).state.queued ≡ r.state.queued
starved-queued None r = refl
starved-queued (Some e) r = refl

-- what was given and is still queued is what was queued and the frames that the call added
pub added : (r : Reading) (c : Call) → given r c ++ (after r c).state.queued ≡ r.state.queued ++ bytes_of (emitted r c)
added r (Feeds piece) = (adds_fed r piece).queued
added r Starves = starved-queued r.state.fault r ∙ sym (append-nil r.state.queued)
added r Hands = handed-queued r.state r.state.events ∙ sym (append-nil r.state.queued)
added r Takes = append-nil (output r.state)
added r (Opens fields last) = added_unless (refusal r.state) r.state (opened r.state fields last) (header_frames r.state fields last) (opened-queued r.state fields last)
added r (Sends id piece last) = added_unless r.state.fault r.state (sent r.state id piece last) (send_frames r.state id piece last) (sent-queued r.state id piece last)
added r (Resets id code) = added_unless r.state.fault r.state (reset r.state id code) (reset_frame id code ∷ []) (reset-queued r.state id code)

pub all_added : (r : Reading) (cs : List Call) → all_given r cs ++ (run r cs).state.queued ≡ r.state.queued ++ bytes_of (all_emitted r cs)
all_added r [] = sym (append-nil r.state.queued)
all_added r (c ∷ cs) =
    append_assoc (given r c) (all_given (after r c) cs) (run (after r c) cs).state.queued
    ∙ (ap (λ (x : List ℕ). given r c ++ x) (all_added (after r c) cs)
    ∙ (sym (append_assoc (given r c) (after r c).state.queued (bytes_of (all_emitted (after r c) cs)))
    ∙ (ap (λ (x : List ℕ). x ++ bytes_of (all_emitted (after r c) cs)) (added r c)
    ∙ (append_assoc r.state.queued (bytes_of (emitted r c)) (bytes_of (all_emitted (after r c) cs))
    ∙ ap (λ (x : List ℕ). r.state.queued ++ x) (sym (bytes_of-append (emitted r c) (all_emitted (after r c) cs)))))))
