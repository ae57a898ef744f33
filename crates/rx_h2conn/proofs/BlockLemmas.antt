-- The header block of a stream is written by the call that opens it.
use Rattle.std.proofs.Common.{◌≡◌, ℕ, ◌+◌, ◌<◌, ◌≤◌, Bool, true, false, cond, not, ◌&&◌, ◌||◌, List, [], ◌∷◌, ◌++◌, length, take, refl, sym, ap, ◌∙◌, nat_eq, nat_lt, arith, length-append, length-set, append_assoc, append-nil, Option, None, Some}
use Rattle.std.specs.List.{filter}
use Rattle.std.proofs.lemmas.Bool.{eq-eqb, eqb-true}
use Rattle.std.proofs.lemmas.List.Elements.{filter-append}
use Rattle.rx_hpack.specs.Header.{Field}
use Rattle.rx_h2frame.specs.declared.kind.Kind.TheVariants.{Data, Headers, Continuation}
use Rattle.rx_h2frame.specs.Write.{Out}
use Rattle.rx_h2conn.specs.declared.fault.ConnFault.{ConnFault}
use Rattle.rx_h2conn.specs.Session.{Session, Reading}
use Rattle.rx_h2conn.specs.Streams.{fresh, stream_at}
use Rattle.rx_h2conn.specs.Steps.{unless_failed, broken}
use Rattle.rx_h2conn.specs.Open.{refusal, next_id, opened, header_frames, header_block}
use Rattle.rx_h2conn.specs.Output.{end_stream, data_frames, allowed, ends, send_frames, reset_frame, sent, reset}
use Rattle.rx_h2conn.specs.History.{Call, Feeds, Starves, Hands, Takes, Opens, Sends, Resets, unless, after, run, emitted, all_emitted}
use Rattle.rx_h2conn.specs.Emitted.{outs_unless}
use Rattle.rx_h2conn.specs.Carried.{payload, bytes_unless}
use Rattle.rx_h2conn.specs.Blocks.{carries_block, block_on, IsOnlyBlock}
use Rattle.rx_h2conn.proofs.ConnLemmas.{length_told, refusal_none}
use Rattle.rx_h2conn.proofs.KeptLemmas.{leaves_fed, leaves_handed}
use Rattle.rx_h2conn.proofs.ChosenLemmas.{IsOfStreams, none_fed, none_due, none_unless, chosen_frames, chosen_if, chosen_unless}
use Rattle.rx_h2conn.proofs.CarriedLemmas.{payload-append, payload_frames, payload_unless, payload_cond}
use Rattle.rx_h2conn.proofs.HeardCallLemmas.{none_before}

abbrev pub is_block_of : ℕ → Out → Bool
is_block_of id o = carries_block o.kind && nat_eq o.stream id

pub blocks_of_streams : (id : ℕ) → IsOfStreams (is_block_of id)
blocks_of_streams id = record { settings = refl; ping = λ f. refl; credit = λ i n. refl }

-- what a call writes of a stream's block
abbrev pub block_by : Reading → ℕ → Call → List ℕ
block_by r id (Feeds piece) = []
block_by r id Starves = []
block_by r id Hands = []
block_by r id Takes = []
block_by r id (Opens fields last) = cond (nat_eq (next_id r.state) id) (bytes_unless (refusal r.state) (header_block r.state.size_update fields)) []
block_by r id (Sends i piece last) = []
block_by r id (Resets i code) = []

pub block_opened : (r : Reading) (id : ℕ) (fields : List Field) (last : Bool) → block_on id (emitted r (Opens fields last)) ≡ block_by r id (Opens fields last)
block_opened r id fields last =
    let block = header_block r.state.size_update fields in
    let frames = header_frames r.state fields last in
    let here = nat_eq (next_id r.state) id in
    ap payload (chosen_unless (is_block_of id) here (refusal r.state) frames
    (chosen_frames (is_block_of id) here (length block + 1) Headers Continuation (end_stream last) 4 (next_id r.state) block (λ _ _. refl) (λ _ _. refl)))
    ∙ payload_cond here (outs_unless (refusal r.state) frames) (bytes_unless (refusal r.state) block)
    (payload_unless (refusal r.state) frames block (payload_frames (length block + 1) Headers Continuation (end_stream last) 4 (next_id r.state) block (omega arith)))

pub block_sent : (r : Reading) (id i : ℕ) (piece : List ℕ) (last : Bool) → block_on id (emitted r (Sends i piece last)) ≡ []
block_sent r id i piece last =
    let s = r.state in
    let p = is_block_of id in
    let bytes = take (allowed s i (length piece)) piece in
    let over = ends s i (length piece) last in
    ap payload (chosen_unless p false s.fault (send_frames s i piece last)
    (chosen_if p false (not (stream_at s i).server_reset && (nat_lt 0 (allowed s i (length piece)) || over)) (data_frames i bytes over)
    (chosen_frames p false (length bytes + 1) Data Data 0 (end_stream over) i bytes (λ _ _. refl) (λ _ _. refl))))

pub block_emitted : (r : Reading) (id : ℕ) (c : Call) → block_on id (emitted r c) ≡ block_by r id c
block_emitted r id (Feeds piece) = ap payload (none_fed (is_block_of id) r piece (blocks_of_streams id))
block_emitted r id Starves = refl
block_emitted r id Hands = refl
block_emitted r id Takes = ap payload (none_due (is_block_of id) r.state (blocks_of_streams id))
block_emitted r id (Opens fields last) = block_opened r id fields last
block_emitted r id (Sends i piece last) = block_sent r id i piece last
block_emitted r id (Resets i code) = ap payload (none_unless (is_block_of id) r.state.fault (reset_frame i code ∷ []) refl)

pub block_append : (id : ℕ) (a b : List Out) → block_on id (a ++ b) ≡ block_on id a ++ block_on id b
block_append id a b = ap payload (filter-append (is_block_of id) a b) ∙ payload-append (filter (is_block_of id) a) (filter (is_block_of id) b)

-- without a fault no stream is lost
pub grows_unless : (o : Option ConnFault) (s x : Session) → length s.streams ≤ length x.streams → length s.streams ≤ length (unless o s x).streams
grows_unless None s x more = more
grows_unless (Some e) s x more = omega arith

pub grows_starved : (o : Option ConnFault) (r : Reading) → (unless_failed o r (broken r)).state.fault ≡ None → length r.state.streams ≤ length (unless_failed o r (broken r)).state.streams
grows_starved None r none = absurd cc
grows_starved (Some e) r none = omega arith

pub count_opened : (s : Session) (fields : List Field) (last : Bool) → length (opened s fields last).streams ≡ length s.streams + 1
unfolding opened
count_opened s fields last = length-append s.streams (record fresh { client_done = last } ∷ [])

pub count_sent : (s : Session) (id : ℕ) (piece : List ℕ) (last : Bool) → length (sent s id piece last).streams ≡ length s.streams
unfolding sent
count_sent s id piece last = length-set s.streams _ _

pub count_given_up : (s : Session) (id code : ℕ) → length (reset s id code).streams ≡ length s.streams
unfolding reset
count_given_up s id code = length-set s.streams _ _

pub count_grows : (c : Call) (r : Reading) → (after r c).state.fault ≡ None → length r.state.streams ≤ length (after r c).state.streams
count_grows (Feeds piece) r none = let same = (leaves_fed r piece).count in omega (arith, same)
count_grows Starves r none = grows_starved r.state.fault r none
count_grows Hands r none = let same = (leaves_handed r.state r.state.events).count in omega (arith, same)
count_grows Takes r none = let same = length_told r.state.streams in omega (arith, same)
count_grows (Opens fields last) r none = grows_unless (refusal r.state) r.state _ (omega (arith, count_opened r.state fields last))
count_grows (Sends id piece last) r none = grows_unless r.state.fault r.state _ (omega (arith, count_sent r.state id piece last))
count_grows (Resets id code) r none = grows_unless r.state.fault r.state _ (omega (arith, count_given_up r.state id code))

pub run_grows : (cs : List Call) (r : Reading) → (run r cs).state.fault ≡ None → length r.state.streams ≤ length (run r cs).state.streams
run_grows [] r none = omega arith
run_grows (c ∷ cs) r none = omega (arith, count_grows c r (none_before cs (after r c) none), run_grows cs (after r c) none)

pub opens_more : (o : Option ConnFault) (s x : Session) (n : ℕ) → o ≡ None → length x.streams ≡ n → length (unless o s x).streams ≡ n
opens_more None s x n none is = is
opens_more (Some e) s x n none is = absurd cc

-- a call that opens another stream, or none
pub no_block : (b : Bool) (o : Option ConnFault) (block : List ℕ) → (o ≡ None → b ≡ false) → cond b (bytes_unless o block) [] ≡ []
no_block true None block other = let no = other refl in absurd cc
no_block true (Some e) block other = refl
no_block false o block other = refl

pub not_equal : (n id : ℕ) → (n ≡ id → ⊥) → nat_eq n id ≡ false
not_equal n id other =
    elim (nat_eq n id) as (λ b. nat_eq n id ≡ b → b ≡ false) [
      | true ↦ λ is. absurd (other (eqb-true n id is))
      | false ↦ λ is. refl
    ] refl

-- before: the streams that were opened have lower numbers
pub block_before : (c : Call) (r : Reading) (id : ℕ) → next_id (after r c).state ≤ id → block_by r id c ≡ []
block_before (Feeds piece) r id below = refl
block_before Starves r id below = refl
block_before Hands r id below = refl
block_before Takes r id below = refl
block_before (Opens fields last) r id below =
    no_block (nat_eq (next_id r.state) id) (refusal r.state) (header_block r.state.size_update fields)
    (λ none. let more = opens_more (refusal r.state) r.state (opened r.state fields last) _ none (count_opened r.state fields last) in not_equal (next_id r.state) id (λ same. omega (arith, more, below, same)))
block_before (Sends i piece last) r id below = refl
block_before (Resets i code) r id below = refl

pub two_none : (a b : List ℕ) → a ≡ [] → b ≡ [] → a ++ b ≡ []
two_none a b e f = rw (e, f) refl

pub blocks_before : (cs : List Call) (r : Reading) (id : ℕ) → (run r cs).state.fault ≡ None → next_id (run r cs).state ≤ id → block_on id (all_emitted r cs) ≡ []
blocks_before [] r id none below = refl
blocks_before (c ∷ cs) r id none below =
    block_append id (emitted r c) (all_emitted (after r c) cs)
    ∙ two_none _ _ (block_emitted r id c ∙ block_before c r id (omega (arith, run_grows cs (after r c) none, below))) (blocks_before cs (after r c) id none below)

-- after: the next one has a higher number, as long as nothing failed
abbrev pub IsPast : Reading → ℕ → Type 0
IsPast r id = r.state.fault ≡ None → id < next_id r.state

pub past_after : (c : Call) (r : Reading) (id : ℕ) → IsPast r id → IsPast (after r c) id
past_after c r id past = λ none. omega (arith, past (none_before (c ∷ []) r none), count_grows c r none)

pub block_after : (c : Call) (r : Reading) (id : ℕ) → IsPast r id → block_by r id c ≡ []
block_after (Feeds piece) r id past = refl
block_after Starves r id past = refl
block_after Hands r id past = refl
block_after Takes r id past = refl
block_after (Opens fields last) r id past =
    no_block (nat_eq (next_id r.state) id) (refusal r.state) (header_block r.state.size_update fields)
    (λ none. let above = past (refusal_none r.state none).0 in not_equal (next_id r.state) id (λ same. omega (arith, above, same)))
block_after (Sends i piece last) r id past = refl
block_after (Resets i code) r id past = refl

pub blocks_after : (cs : List Call) (r : Reading) (id : ℕ) → IsPast r id → block_on id (all_emitted r cs) ≡ []
blocks_after [] r id past = refl
blocks_after (c ∷ cs) r id past =
    block_append id (emitted r c) (all_emitted (after r c) cs)
    ∙ two_none _ _ (block_emitted r id c ∙ block_after c r id past) (blocks_after cs (after r c) id (past_after c r id past))

pub emitted_append : (r : Reading) (a b : List Call) → all_emitted r (a ++ b) ≡ all_emitted r a ++ all_emitted (run r a) b
emitted_append r [] b = refl
emitted_append r (c ∷ a) b = ap (λ (x : List Out). emitted r c ++ x) (emitted_append (after r c) a b) ∙ sym (append_assoc (emitted r c) (all_emitted (after r c) a) (all_emitted (run (after r c) a) b))

pub the_block : (b : Bool) (o : Option ConnFault) (block : List ℕ) → b ≡ true → o ≡ None → cond b (bytes_unless o block) [] ≡ block
the_block true None block is none = refl
the_block true (Some e) block is none = absurd cc
the_block false o block is none = absurd cc

pub only_block : (r : Reading) (before : List Call) (fields : List Field) (last : Bool) (later : List Call) → IsOnlyBlock r before fields last later
only_block r before fields last later none =
    let at = run r before in
    let id = next_id at.state in
    let c = Opens fields last in
    let fault = (refusal_none at.state none).0 in
    let more = opens_more (refusal at.state) at.state (opened at.state fields last) _ none (count_opened at.state fields last) in
    let first : block_on id (all_emitted r before) ≡ [] = blocks_before before r id fault (omega arith) in
    let here : block_on id (emitted at c) ≡ header_block at.state.size_update fields = block_opened at id fields last ∙ the_block (nat_eq id id) (refusal at.state) _ (eq-eqb id id refl) none in
    let rest : block_on id (all_emitted (after at c) later) ≡ [] = blocks_after later (after at c) id (λ _. omega (arith, more)) in
    ap (block_on id) (emitted_append r before (c ∷ later))
    ∙ (block_append id (all_emitted r before) (all_emitted at (c ∷ later))
    ∙ (ap (λ (x : List ℕ). x ++ block_on id (all_emitted at (c ∷ later))) first
    ∙ (block_append id (emitted at c) (all_emitted (after at c) later)
    ∙ (ap (λ (x : List ℕ). block_on id (emitted at c) ++ x) rest
    ∙ (append-nil (block_on id (emitted at c)) ∙ here)))))
