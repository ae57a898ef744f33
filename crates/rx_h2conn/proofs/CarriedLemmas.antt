-- The bytes of a stream are those that `send` wrote for it.
use Rattle.std.proofs.Common.{◌≡◌, ℕ, ◌+◌, ◌<◌, Bool, true, false, cond, not, ◌&&◌, ◌||◌, zero, suc, List, [], ◌∷◌, ◌++◌, length, take, drop, refl, sym, ap, ◌∙◌, Option, None, Some, nat_lt, nat_eq, arith, length-drop, append_assoc, append-nil}
use Rattle.std.specs.List.{filter}
use Rattle.std.proofs.lemmas.Bool.{ltb-true, ltb-false, or_parts}
use Rattle.std.proofs.lemmas.List.{take-append-drop}
use Rattle.std.proofs.lemmas.List.Elements.{filter-append}
use Rattle.rx_hpack.specs.Header.{Field}
use Rattle.rx_h2frame.specs.declared.kind.Kind.{Kind}
use Rattle.rx_h2frame.specs.declared.kind.Kind.TheVariants.{Data, Headers, Continuation}
use Rattle.rx_h2frame.specs.Write.{Out}
use Rattle.rx_h2conn.specs.declared.fault.ConnFault.{ConnFault}
use Rattle.rx_h2conn.specs.Session.{Session, Reading}
use Rattle.rx_h2conn.specs.Streams.{stream_at}
use Rattle.rx_h2conn.specs.Emitted.{outs_unless}
use Rattle.rx_h2conn.specs.Open.{refusal, next_id, header_frames, header_block}
use Rattle.rx_h2conn.specs.Output.{frames_of, end_stream, data_frames, allowed, ends, send_frames, reset_frame}
use Rattle.rx_h2conn.specs.History.{Call, Feeds, Starves, Hands, Takes, Opens, Sends, Resets, after, emitted, all_emitted}
use Rattle.rx_h2conn.specs.Carried.{is_data, payload, bytes_on, written, bytes_unless, written_by, all_written}
use Rattle.rx_h2conn.proofs.FrameLemmas.{frames_of-long, frames_of-short}
use Rattle.rx_h2conn.proofs.ChosenLemmas.{IsOfStreams, IsAll, none_fed, none_due, none_unless, chosen_frames, chosen_if, chosen_unless}

pub payload-append : (os ps : List Out) → payload (os ++ ps) ≡ payload os ++ payload ps
payload-append [] ps = refl
payload-append (o ∷ os) ps = ap (λ (x : List ℕ). o.body ++ x) (payload-append os ps) ∙ sym (append_assoc o.body (payload os) (payload ps))

-- frames hold the bytes that were put into them
pub payload_frames : (most : ℕ) (first later : Kind) (flags ending id : ℕ) (bytes : List ℕ) → length bytes < most → payload (frames_of most first later flags ending id bytes) ≡ bytes
payload_frames zero first later flags ending id bytes enough = absurd (omega (arith, enough))
payload_frames (suc most) first later flags ending id bytes enough =
    elim (nat_lt 16384 (length bytes)) as (λ b. nat_lt 16384 (length bytes) ≡ b → payload (frames_of (suc most) first later flags ending id bytes) ≡ bytes) [
      | true ↦ λ is.
          let long : 16384 < length bytes = ltb-true _ _ is in
          let e = frames_of-long most first later flags ending id bytes long in
          rw e (ap (λ (x : List ℕ). take 16384 bytes ++ x) (payload_frames most later later 0 ending id (drop 16384 bytes) (omega (arith, enough, long, length-drop 16384 bytes))) ∙ take-append-drop 16384 bytes)
      | false ↦ λ is.
          let e = frames_of-short most first later flags ending id bytes (ltb-false _ _ is) in
          rw e (append-nil bytes)
    ] refl

pub payload_data : (id : ℕ) (bytes : List ℕ) (last : Bool) → payload (data_frames id bytes last) ≡ bytes
payload_data id bytes last = payload_frames (length bytes + 1) Data Data 0 (end_stream last) id bytes (omega arith)

-- where nothing is allowed and nothing ends, nothing is written
pub nothing_taken : (n : ℕ) (over : Bool) (piece : List ℕ) → (nat_lt 0 n || over) ≡ false → [] ≡ take n piece
nothing_taken zero over piece h = refl
nothing_taken (suc n) over piece h = let some : nat_lt 0 (suc n) ≡ false = (or_parts _ _ h).0 in absurd (omega (arith, ltb-false _ _ some))

pub payload_if : (n : ℕ) (over : Bool) (id : ℕ) (piece : List ℕ) → payload (cond (nat_lt 0 n || over) (data_frames id (take n piece) over) []) ≡ take n piece
payload_if n over id piece =
    elim (nat_lt 0 n || over) as (λ b. (nat_lt 0 n || over) ≡ b → payload (cond b (data_frames id (take n piece) over) []) ≡ take n piece) [
      | true ↦ λ is. payload_data id (take n piece) over
      | false ↦ λ is. nothing_taken n over piece is
    ] refl

pub payload_by : (gone : Bool) (n : ℕ) (over : Bool) (id : ℕ) (piece : List ℕ) → payload (cond (not gone && (nat_lt 0 n || over)) (data_frames id (take n piece) over) []) ≡ take (cond gone 0 n) piece
payload_by true n over id piece = refl
payload_by false n over id piece = payload_if n over id piece

pub payload_sent : (s : Session) (id : ℕ) (piece : List ℕ) (last : Bool) → payload (send_frames s id piece last) ≡ written s id piece
payload_sent s id piece last = payload_by (stream_at s id).server_reset (allowed s id (length piece)) (ends s id (length piece) last) id piece

pub payload_unless : (o : Option ConnFault) (os : List Out) (bytes : List ℕ) → payload os ≡ bytes → payload (outs_unless o os) ≡ bytes_unless o bytes
payload_unless None os bytes h = h
payload_unless (Some e) os bytes h = refl

pub payload_cond : (all : Bool) (os : List Out) (bytes : List ℕ) → payload os ≡ bytes → payload (cond all os []) ≡ cond all bytes []
payload_cond true os bytes h = h
payload_cond false os bytes h = refl

-- the frames of DATA that a call adds, for a test that holds of all or of none on a stream
pub data_sent : (p : Out → Bool) (all : Bool) (r : Reading) (id : ℕ) (piece : List ℕ) (last : Bool) → IsAll p all Data id → payload (filter p (outs_unless r.state.fault (send_frames r.state id piece last))) ≡ cond all (bytes_unless r.state.fault (written r.state id piece)) []
data_sent p all r id piece last h =
    let s = r.state in
    let bytes = take (allowed s id (length piece)) piece in
    let over = ends s id (length piece) last in
    ap payload (chosen_unless p all s.fault (send_frames s id piece last)
    (chosen_if p all (not (stream_at s id).server_reset && (nat_lt 0 (allowed s id (length piece)) || over)) (data_frames id bytes over)
    (chosen_frames p all (length bytes + 1) Data Data 0 (end_stream over) id bytes h h)))
    ∙ payload_cond all (outs_unless s.fault (send_frames s id piece last)) (bytes_unless s.fault (written s id piece)) (payload_unless s.fault (send_frames s id piece last) (written s id piece) (payload_sent s id piece last))

-- headers are no bytes of a stream
pub none_opened : (p : Out → Bool) (r : Reading) (fields : List Field) (last : Bool) → IsAll p false Headers (next_id r.state) → IsAll p false Continuation (next_id r.state) → filter p (outs_unless (refusal r.state) (header_frames r.state fields last)) ≡ []
none_opened p r fields last first later =
    let block = header_block r.state.size_update fields in
    none_unless p (refusal r.state) (header_frames r.state fields last) (chosen_frames p false (length block + 1) Headers Continuation (end_stream last) 4 (next_id r.state) block first later)

abbrev pub is_byte_of : ℕ → Out → Bool
is_byte_of id o = is_data o.kind && nat_eq o.stream id

pub bytes_of_streams : (id : ℕ) → IsOfStreams (is_byte_of id)
bytes_of_streams id = record { settings = refl; ping = λ f. refl; credit = λ i n. refl }

pub carried : (r : Reading) (id : ℕ) (c : Call) → bytes_on id (emitted r c) ≡ written_by r id c
carried r id (Feeds piece) = ap payload (none_fed (is_byte_of id) r piece (bytes_of_streams id))
carried r id Starves = refl
carried r id Hands = refl
carried r id Takes = ap payload (none_due (is_byte_of id) r.state (bytes_of_streams id))
carried r id (Opens fields last) = ap payload (none_opened (is_byte_of id) r fields last (λ _ _. refl) (λ _ _. refl))
carried r id (Sends i piece last) = data_sent (is_byte_of id) (nat_eq i id) r i piece last (λ _ _. refl)
carried r id (Resets i code) = ap payload (none_unless (is_byte_of id) r.state.fault (reset_frame i code ∷ []) refl)

pub all_carried : (r : Reading) (id : ℕ) (cs : List Call) → bytes_on id (all_emitted r cs) ≡ all_written r id cs
all_carried r id [] = refl
all_carried r id (c ∷ cs) =
    let front = filter (is_byte_of id) (emitted r c) in
    let back = filter (is_byte_of id) (all_emitted (after r c) cs) in
    ap payload (filter-append (is_byte_of id) (emitted r c) (all_emitted (after r c) cs))
    ∙ (payload-append front back
    ∙ (ap (λ (x : List ℕ). x ++ payload back) (carried r id c)
    ∙ ap (λ (x : List ℕ). written_by r id c ++ x) (all_carried (after r c) id cs)))
