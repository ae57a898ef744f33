-- Nothing was sent of a stream that isn't open yet, and its headers don't end it.
use Rattle.std.proofs.Common.{◌≡◌, ℕ, ◌+◌, ◌/◌, ◌%◌, ◌<◌, ◌≤◌, zero, suc, Bool, true, false, not, ◌&&◌, ◌||◌, List, [], ◌∷◌, length, take, drop, filter, refl, ap, ◌∙◌, nat_eq, nat_lt, arith, Option, None, Some}
use Rattle.std.specs.List.{list_any}
use Rattle.std.proofs.lemmas.Bool.{eqb-true, ltb-true, ltb-false}
use Rattle.std.proofs.Math.Bool.{and-false}
use Rattle.std.proofs.lemmas.List.Elements.{filter-append}
use Rattle.rx_h2frame.specs.declared.kind.Kind.{Kind}
use Rattle.rx_h2frame.specs.declared.kind.Kind.TheVariants.{Data, Headers, Continuation}
use Rattle.rx_h2frame.specs.Flags.{is_set}
use Rattle.rx_h2frame.specs.Write.{Out}
use Rattle.rx_h2conn.specs.declared.fault.ConnFault.{ConnFault}
use Rattle.rx_h2conn.specs.Session.{Session, Reading}
use Rattle.rx_h2conn.specs.Streams.{stream_at, is_open}
use Rattle.rx_h2conn.specs.Open.{refusal, next_id, opened, header_frames, header_block}
use Rattle.rx_h2conn.specs.Output.{allowed, data_frames, end_stream, ends, frames_of, reset_frame, send_frames}
use Rattle.rx_h2conn.specs.Emitted.{outs_unless}
use Rattle.rx_h2conn.specs.Granted.{AllSendHeld, SendsHeld}
use Rattle.rx_h2conn.specs.History.{Call, Feeds, Starves, Hands, Takes, Opens, Sends, Resets, after, run, emitted, all_emitted}
use Rattle.rx_h2conn.proofs.BlockLemmas.{count_grows, count_opened, not_equal, opens_more, run_grows}
use Rattle.rx_h2conn.proofs.CarriedLemmas.{is_byte_of, bytes_of_streams}
use Rattle.rx_h2conn.proofs.ChosenLemmas.{IsAll, IsOfStreams, chosen_frames, chosen_if, none_due, none_fed, none_of_one, none_unless, two_empty}
use Rattle.rx_h2conn.proofs.FrameLemmas.{frames_of-long, frames_of-short}
use Rattle.rx_h2conn.proofs.HeardCallLemmas.{none_before}
use Rattle.rx_h2conn.proofs.ListLemmas.{and_true}
use Rattle.rx_h2conn.proofs.SoundLemmas.{open_at}
use Rattle.rx_grpc.specs.Sent.{can_end, ends_stream}
use Rattle.rx_grpc.proofs.QuietLemmas.{ends_of_streams}

-- a test of frames that open or fill one stream
pub record IsOfOne (p : Out → Bool) (id : ℕ) : Type 0 where
  pub streams : IsOfStreams p
  pub reset : (i code : ℕ) → p (reset_frame i code) ≡ false
  pub other : (k : Kind) (i : ℕ) → nat_eq i id ≡ false → IsAll p false k i

pub bytes_of_one : (id : ℕ) → IsOfOne (is_byte_of id) id
bytes_of_one id = record {
  streams = bytes_of_streams id;
  reset = λ i code. refl;
  other = λ k i ne. λ flags body. rw ne (and-false _);
}

pub ends_of_one : (id : ℕ) → IsOfOne (ends_stream id) id
ends_of_one id = record {
  streams = ends_of_streams id;
  reset = λ i code. refl;
  other = λ k i ne. λ flags body. rw ne (and-false _);
}

pub none_by : (p : Out → Bool) (o : Option ConnFault) (os : List Out) → (o ≡ None → filter p os ≡ []) → filter p (outs_unless o os) ≡ []
none_by p None os h = h refl
none_by p (Some e) os h = refl

-- a stream that is open has a lower number than the next one
pub open_below : (s : Session) (i : ℕ) → is_open s i ≡ true → i < next_id s
open_below s i is =
    let small = open_at s i is in
    let odd : i % 2 ≡ 1 = eqb-true (i % 2) 1 (and_true (nat_eq (i % 2) 1) (nat_lt (i / 2) (length s.streams)) is).0 in
    omega (arith, small, odd)

pub unopened_call : (p : Out → Bool) (c : Call) (r : Reading) (id : ℕ) → IsOfOne p id → SendsHeld r c → (after r c).state.fault ≡ None → next_id (after r c).state ≤ id → filter p (emitted r c) ≡ []
unopened_call p (Feeds piece) r id h held none below = none_fed p r piece h.streams
unopened_call p Starves r id h held none below = refl
unopened_call p Hands r id h held none below = refl
unopened_call p Takes r id h held none below = none_due p r.state h.streams
unopened_call p (Opens fields last) r id h held none below =
    none_by p (refusal r.state) (header_frames r.state fields last) (λ free.
    let more = opens_more (refusal r.state) r.state (opened r.state fields last) _ free (count_opened r.state fields last) in
    let block = header_block r.state.size_update fields in
    let ne = not_equal (next_id r.state) id (λ same. omega (arith, more, below, same)) in
    chosen_frames p false (length block + 1) Headers Continuation (end_stream last) 4 (next_id r.state) block (h.other Headers (next_id r.state) ne) (h.other Continuation (next_id r.state) ne))
unopened_call p (Sends i piece last) r id h held none below =
    none_by p r.state.fault (send_frames r.state i piece last) (λ calm.
    let more = count_grows (Sends i piece last) r none in
    let small = open_below r.state i (held calm).opened in
    let ne = not_equal i id (λ same. omega (arith, more, small, below, same)) in
    let s = r.state in
    let bytes = take (allowed s i (length piece)) piece in
    let over = ends s i (length piece) last in
    chosen_if p false (not (stream_at s i).server_reset && (nat_lt 0 (allowed s i (length piece)) || over)) (data_frames i bytes over)
    (chosen_frames p false (length bytes + 1) Data Data 0 (end_stream over) i bytes (h.other Data i ne) (h.other Data i ne)))
unopened_call p (Resets i code) r id h held none below = none_unless p r.state.fault (reset_frame i code ∷ []) (none_of_one p (reset_frame i code) (h.reset i code))

pub unopened_run : (p : Out → Bool) (cs : List Call) (r : Reading) (id : ℕ) → IsOfOne p id → AllSendHeld r cs → (run r cs).state.fault ≡ None → next_id (run r cs).state ≤ id → filter p (all_emitted r cs) ≡ []
unopened_run p [] r id h held none below = refl
unopened_run p (c ∷ cs) r id h held none below =
    let more = run_grows cs (after r c) none in
    filter-append p (emitted r c) (all_emitted (after r c) cs)
    ∙ two_empty _ _ (unopened_call p c r id h held.0 (none_before cs (after r c) none) (omega (arith, more, below))) (unopened_run p cs (after r c) id h held.1 none below)

-- frames without the flag end no stream
pub unended_one : (id stream flags : ℕ) (k : Kind) (body : List ℕ) → is_set flags 1 ≡ false → ends_stream id (record { kind = k; flags = flags; stream = stream; body = body }) ≡ false
unended_one id stream flags k body unset = rw unset (ap (λ (b : Bool). can_end k && b) (and-false (nat_eq stream id)) ∙ and-false (can_end k))

pub unended_frames : (id : ℕ) (most : ℕ) (first later : Kind) (flags ending stream : ℕ) (bytes : List ℕ) → is_set flags 1 ≡ false → is_set (flags + ending) 1 ≡ false → is_set (0 + ending) 1 ≡ false → list_any (ends_stream id) (frames_of most first later flags ending stream bytes) ≡ false
unfolding frames_of
unended_frames id zero first later flags ending stream bytes a b c = refl
unended_frames id (suc most) first later flags ending stream bytes a b c =
    elim (nat_lt 16384 (length bytes)) as (λ x. nat_lt 16384 (length bytes) ≡ x → list_any (ends_stream id) (frames_of (suc most) first later flags ending stream bytes) ≡ false) [
      | true ↦ λ is.
          let e = frames_of-long most first later flags ending stream bytes (ltb-true _ _ is) in
          let one = unended_one id stream flags first (take 16384 bytes) a in
          let rest = unended_frames id most later later 0 ending stream (drop 16384 bytes) refl c c in
          rw (e, one, rest) refl
      | false ↦ λ is.
          let e = frames_of-short most first later flags ending stream bytes (ltb-false _ _ is) in
          let one = unended_one id stream (flags + ending) first bytes b in
          rw (e, one) refl
    ] refl
