-- The frames of a stream are those that the calls on it gave.
use Rattle.std.proofs.Common.{◌≡◌, ℕ, ◌+◌, not, ◌&&◌, ◌||◌, List, [], ◌∷◌, ◌++◌, length, take, refl, ap, ◌∙◌, nat_lt, nat_eq}
use Rattle.std.proofs.lemmas.List.Elements.{filter-append}
use Rattle.rx_h2frame.specs.declared.kind.Kind.TheVariants.{Data, Headers, Continuation}
use Rattle.rx_h2frame.specs.Write.{Out}
use Rattle.rx_h2conn.specs.Session.{Reading}
use Rattle.rx_h2conn.specs.Streams.{stream_at}
use Rattle.rx_h2conn.specs.Open.{refusal, next_id, header_frames, header_block}
use Rattle.rx_h2conn.specs.Output.{end_stream, data_frames, allowed, ends, send_frames, reset_frame}
use Rattle.rx_h2conn.specs.History.{Call, Feeds, Starves, Hands, Takes, Opens, Sends, Resets, after, emitted, all_emitted}
use Rattle.rx_h2conn.specs.Parts.{is_part, part_of, part_by, all_parts}
use Rattle.rx_h2conn.proofs.ChosenLemmas.{IsOfStreams, none_fed, none_due, chosen_one, either_way, chosen_frames, chosen_if, chosen_unless}

pub of_streams : (id : ℕ) → IsOfStreams (is_part id)
of_streams id = record { settings = refl; ping = λ f. refl; credit = λ i n. refl }

pub part_emitted : (r : Reading) (id : ℕ) (c : Call) → part_of id (emitted r c) ≡ part_by r id c
part_emitted r id (Feeds piece) = none_fed (is_part id) r piece (of_streams id)
part_emitted r id Starves = refl
part_emitted r id Hands = refl
part_emitted r id Takes = none_due (is_part id) r.state (of_streams id)
part_emitted r id (Opens fields last) =
    let block = header_block r.state.size_update fields in
    chosen_unless (is_part id) (nat_eq (next_id r.state) id) (refusal r.state) (header_frames r.state fields last)
    (chosen_frames (is_part id) (nat_eq (next_id r.state) id) (length block + 1) Headers Continuation (end_stream last) 4 (next_id r.state) block (λ _ _. refl) (λ _ _. refl))
part_emitted r id (Sends i piece last) =
    let s = r.state in
    let bytes = take (allowed s i (length piece)) piece in
    let over = ends s i (length piece) last in
    chosen_unless (is_part id) (nat_eq i id) s.fault (send_frames s i piece last)
    (chosen_if (is_part id) (nat_eq i id) (not (stream_at s i).server_reset && (nat_lt 0 (allowed s i (length piece)) || over)) (data_frames i bytes over)
    (chosen_frames (is_part id) (nat_eq i id) (length bytes + 1) Data Data 0 (end_stream over) i bytes (λ _ _. refl) (λ _ _. refl)))
part_emitted r id (Resets i code) =
    chosen_unless (is_part id) (nat_eq i id) r.state.fault (reset_frame i code ∷ [])
    (chosen_one (is_part id) (nat_eq i id) (reset_frame i code) [] [] refl (either_way (nat_eq i id) []))

pub part_all : (r : Reading) (id : ℕ) (cs : List Call) → part_of id (all_emitted r cs) ≡ all_parts r id cs
part_all r id [] = refl
part_all r id (c ∷ cs) =
    filter-append (is_part id) (emitted r c) (all_emitted (after r c) cs)
    ∙ (ap (λ (x : List Out). x ++ part_of id (all_emitted (after r c) cs)) (part_emitted r id c)
    ∙ ap (λ (x : List Out). part_by r id c ++ x) (part_all (after r c) id cs))
