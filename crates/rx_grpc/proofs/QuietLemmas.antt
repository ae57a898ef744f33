-- Calls that send nothing of a request leave what was sent of it, and a stream that the server has reset stays that.
use Rattle.std.proofs.Common.{◌≡◌, ℕ, ◌/◌, Bool, true, false, cond, List, [], ◌∷◌, ◌++◌, filter, refl, ap, subst, ◌∙◌}
use Rattle.std.specs.List.{list_all, list_any}
use Rattle.std.proofs.lemmas.List.Elements.{filter-append}
use Rattle.std.proofs.lemmas.List.Folds.{list_any-append}
use Rattle.rx_h2frame.specs.Write.{Out}
use Rattle.rx_h2conn.specs.Session.{Session, Reading}
use Rattle.rx_h2conn.specs.Streams.{stream_at}
use Rattle.rx_h2conn.specs.Carried.{bytes_on}
use Rattle.rx_h2conn.specs.History.{Call, Feeds, Starves, Hands, Takes, Opens, Sends, Resets, after, run, emitted, all_emitted}
use Rattle.rx_h2conn.proofs.CarriedLemmas.{bytes_of_streams, is_byte_of, payload-append}
use Rattle.rx_h2conn.proofs.ChosenLemmas.{IsOfStreams, none_fed, none_due}
use Rattle.rx_h2conn.proofs.KeptLemmas.{Leaves, leaves_fed, leaves_handed, leaves_emptied}
use Rattle.rx_h2conn.proofs.ListLemmas.{and_true}
use Rattle.rx_h2conn.specs.Carried.{payload}
use Rattle.rx_grpc.specs.Moves.{is_quiet}
use Rattle.rx_grpc.specs.Sent.{ends_stream, is_ended}

pub none_any : {A : Type 0} (p : A → Bool) (xs : List A) → filter p xs ≡ [] → list_any p xs ≡ false
none_any p [] h = refl
none_any p (x ∷ xs) h =
    elim (p x) as (λ b. p x ≡ b → list_any p (x ∷ xs) ≡ false) [
      | true ↦ λ is. let bad : x ∷ filter p xs ≡ [] = subst (λ (b : Bool). cond b (x ∷ filter p xs) (filter p xs) ≡ []) is h in absurd cc
      | false ↦ λ is.
          let rest : filter p xs ≡ [] = subst (λ (b : Bool). cond b (x ∷ filter p xs) (filter p xs) ≡ []) is h in
          rw is (none_any p xs rest)
    ] refl

pub ends_of_streams : (id : ℕ) → IsOfStreams (ends_stream id)
ends_of_streams id = record { settings = refl; ping = λ f. refl; credit = λ i n. refl }

pub bytes_append : (id : ℕ) (a b : List Out) → bytes_on id (a ++ b) ≡ bytes_on id a ++ bytes_on id b
bytes_append id a b = ap payload (filter-append (is_byte_of id) a b) ∙ payload-append (filter (is_byte_of id) a) (filter (is_byte_of id) b)

-- what such calls leave
pub record LeavesStream (old new : Reading) (outs : List Out) (id : ℕ) : Type 0 where
  pub bytes : bytes_on id outs ≡ []
  pub going : is_ended id outs ≡ false
  pub gone : (stream_at old.state id).server_reset ≡ true → (stream_at new.state id).server_reset ≡ true

pub gone_left : (s t : Session) (id : ℕ) → Leaves s t → (stream_at s id).server_reset ≡ true → (stream_at t id).server_reset ≡ true
gone_left s t id l = (l.each (id / 2)).gone

pub quiet_call : (c : Call) (r : Reading) (id : ℕ) → is_quiet c ≡ true → LeavesStream r (after r c) (emitted r c) id
quiet_call (Feeds piece) r id q = record {
  bytes = ap payload (none_fed (is_byte_of id) r piece (bytes_of_streams id));
  going = none_any (ends_stream id) (emitted r (Feeds piece)) (none_fed (ends_stream id) r piece (ends_of_streams id));
  gone = gone_left r.state (after r (Feeds piece)).state id (leaves_fed r piece);
}
quiet_call Starves r id q = absurd cc
quiet_call Hands r id q = record { bytes = refl; going = refl; gone = gone_left r.state (after r Hands).state id (leaves_handed r.state r.state.events) }
quiet_call Takes r id q = record {
  bytes = ap payload (none_due (is_byte_of id) r.state (bytes_of_streams id));
  going = none_any (ends_stream id) (emitted r Takes) (none_due (ends_stream id) r.state (ends_of_streams id));
  gone = gone_left r.state (after r Takes).state id (leaves_emptied r.state);
}
quiet_call (Opens fields last) r id q = absurd cc
quiet_call (Sends i piece last) r id q = absurd cc
quiet_call (Resets i code) r id q = absurd cc

pub quiet_run : (cs : List Call) (r : Reading) (id : ℕ) → list_all is_quiet cs ≡ true → LeavesStream r (run r cs) (all_emitted r cs) id
quiet_run [] r id q = record { bytes = refl; going = refl; gone = λ g. g }
quiet_run (c ∷ cs) r id q =
    let both = and_true (is_quiet c) (list_all is_quiet cs) q in
    let first = quiet_call c r id both.0 in
    let rest = quiet_run cs (after r c) id both.1 in
    let bytes = first.bytes in
    let more = rest.bytes in
    let going = first.going in
    let still = rest.going in
    record {
      bytes = bytes_append id (emitted r c) (all_emitted (after r c) cs) ∙ rw (bytes, more) refl;
      going = list_any-append (ends_stream id) (emitted r c) (all_emitted (after r c) cs) ∙ rw (going, still) refl;
      gone = λ g. rest.gone (first.gone g);
    }
