-- The frames of the output for which a test holds, where it holds of no acknowledgement and no credit.
use Rattle.std.proofs.Common.{◌≡◌, ℕ, ◌+◌, Bool, true, false, cond, ◌||◌, zero, suc, List, [], ◌∷◌, ◌++◌, length, drop, refl, ◌∙◌, Option, None, Some, Result, Ok, Err, nat_lt, nat_eq}
use Rattle.std.specs.List.{filter}
use Rattle.std.proofs.lemmas.Bool.{ltb-true, ltb-false}
use Rattle.std.proofs.lemmas.List.Elements.{filter-append}
use Rattle.rx_h2frame.specs.declared.frame.FrameFault.{FrameFault}
use Rattle.rx_h2frame.specs.declared.kind.Kind.{Kind}
use Rattle.rx_h2frame.specs.declared.kind.Kind.TheVariants.{Data, Headers, Priority, ResetStream, Settings, PushPromise, Ping, GoAway, WindowUpdate, Continuation, Unknown}
use Rattle.rx_h2frame.specs.Flags.{is_set}
use Rattle.rx_h2frame.specs.Frame.{Whole, Seen, Complete, Lacks, next}
use Rattle.rx_h2frame.specs.Write.{Out}
use Rattle.rx_h2conn.specs.declared.fault.ConnFault.{ConnFault}
use Rattle.rx_h2conn.specs.declared.stream.Stream.{Stream}
use Rattle.rx_h2conn.specs.Session.{Session, Reading}
use Rattle.rx_h2conn.specs.Ping.{ping_ack}
use Rattle.rx_h2conn.specs.Settings.{settings_ack}
use Rattle.rx_h2conn.specs.Steps.{took, more, byte}
use Rattle.rx_h2conn.specs.Emitted.{has_fault, ack_outs, took_outs, judged_outs, settled_outs, outs_unless, byte_outs, fed_outs}
use Rattle.rx_h2conn.specs.Credit.{connection_due, stream_due}
use Rattle.rx_h2conn.specs.Output.{frames_of, update_frame, credit_frames, stream_credits, all_credits}
use Rattle.rx_h2conn.proofs.ListLemmas.{either}
use Rattle.rx_h2conn.proofs.FrameLemmas.{frames_of-long, frames_of-short, front_frame, last_frame}

pub record IsOfStreams (p : Out → Bool) : Type 0 where
  pub settings : p settings_ack ≡ false
  pub ping : (f : Whole) → p (ping_ack f) ≡ false
  pub credit : (id n : ℕ) → p (update_frame id n) ≡ false

pub two_empty : (a b : List Out) → a ≡ [] → b ≡ [] → a ++ b ≡ []
two_empty a b e f = rw (e, f) refl

-- acknowledgements
pub none_of_one : (p : Out → Bool) (o : Out) → p o ≡ false → filter p (o ∷ []) ≡ []
none_of_one p o e = rw e refl

pub none_ack : (p : Out → Bool) (k : Kind) (f : Whole) → IsOfStreams p → filter p (ack_outs k f) ≡ []
none_ack p Data f h = refl
none_ack p Headers f h = refl
none_ack p Priority f h = refl
none_ack p ResetStream f h = refl
none_ack p Settings f h = none_of_one p settings_ack h.settings
none_ack p PushPromise f h = refl
none_ack p Ping f h = none_of_one p (ping_ack f) (h.ping f)
none_ack p GoAway f h = refl
none_ack p WindowUpdate f h = refl
none_ack p Continuation f h = refl
none_ack p (Unknown byte) f h = refl

pub none_took : (p : Out → Bool) (s : Session) (f : Whole) → IsOfStreams p → filter p (took_outs s f) ≡ []
none_took p s f h = either (λ (os : List Out). filter p os ≡ []) (has_fault (took s f).fault || is_set f.flags 1) [] (ack_outs f.kind f) (λ _. refl) (λ _. none_ack p f.kind f h)

pub none_judged : (p : Out → Bool) (r : Reading) (x : Result Seen FrameFault) → IsOfStreams p → filter p (judged_outs r x) ≡ []
none_judged p r (Err e) h = refl
none_judged p r (Ok (Lacks n)) h = refl
none_judged p r (Ok (Complete f)) h = none_took p r.state f h

pub none_settled : (p : Out → Bool) (r : Reading) → IsOfStreams p → filter p (settled_outs r) ≡ []
unfolding settled_outs
none_settled p r h = none_judged p r (next 16384 r.rest) h

pub none_unless : (p : Out → Bool) (o : Option ConnFault) (os : List Out) → filter p os ≡ [] → filter p (outs_unless o os) ≡ []
none_unless p None os h = h
none_unless p (Some e) os h = refl

pub none_byte : (p : Out → Bool) (r : Reading) (b : ℕ) → IsOfStreams p → filter p (byte_outs r b) ≡ []
unfolding byte_outs
none_byte p r b h = none_unless p r.state.fault (settled_outs (more r (b ∷ []))) (none_settled p (more r (b ∷ [])) h)

pub none_fed : (p : Out → Bool) (r : Reading) (bytes : List ℕ) → IsOfStreams p → filter p (fed_outs r bytes) ≡ []
none_fed p r [] h = refl
none_fed p r (b ∷ bytes) h = filter-append p (byte_outs r b) (fed_outs (byte r b) bytes) ∙ two_empty _ _ (none_byte p r b h) (none_fed p (byte r b) bytes h)

-- credit
pub none_credit : (p : Out → Bool) (id n : ℕ) → IsOfStreams p → filter p (credit_frames id n) ≡ []
none_credit p id n h = either (λ (os : List Out). filter p os ≡ []) (nat_eq n 0) _ _ (λ _. refl) (λ _. none_of_one p (update_frame id n) (h.credit id n))

pub none_credits : (p : Out → Bool) (id : ℕ) (ts : List Stream) → IsOfStreams p → filter p (stream_credits id ts) ≡ []
none_credits p id [] h = refl
none_credits p id (t ∷ ts) h = filter-append p (credit_frames id (stream_due t)) (stream_credits (id + 2) ts) ∙ two_empty _ _ (none_credit p id (stream_due t) h) (none_credits p (id + 2) ts h)

pub none_due : (p : Out → Bool) (s : Session) → IsOfStreams p → filter p (all_credits s) ≡ []
none_due p s h = filter-append p (credit_frames 0 (connection_due s)) (stream_credits 1 s.streams) ∙ two_empty _ _ (none_credit p 0 (connection_due s) h) (none_credits p 1 s.streams h)

-- frames of bytes, all or none
pub chosen_one : (p : Out → Bool) (all : Bool) (o : Out) (os rest : List Out) → p o ≡ all → filter p os ≡ cond all rest [] → filter p (o ∷ os) ≡ cond all (o ∷ rest) []
chosen_one p true o os rest is h = rw (is, h) refl
chosen_one p false o os rest is h = rw (is, h) refl

-- what is in both arms
pub either_way : (b : Bool) (os : List Out) → os ≡ cond b os os
either_way true os = refl
either_way false os = refl

pub chosen_none : (p : Out → Bool) (all : Bool) (first later : Kind) (flags ending id : ℕ) (bytes : List ℕ) → filter p (frames_of zero first later flags ending id bytes) ≡ cond all (frames_of zero first later flags ending id bytes) []
unfolding frames_of
chosen_none p all first later flags ending id bytes = either_way all []

-- the test is the same for each frame of this kind
abbrev pub IsAll : (Out → Bool) → Bool → Kind → ℕ → Type 0
IsAll p all kind id = (flags : ℕ) (body : List ℕ) → p (record { kind = kind; flags = flags; stream = id; body = body }) ≡ all

pub chosen_frames : (p : Out → Bool) (all : Bool) (most : ℕ) (first later : Kind) (flags ending id : ℕ) (bytes : List ℕ) → IsAll p all first id → IsAll p all later id → filter p (frames_of most first later flags ending id bytes) ≡ cond all (frames_of most first later flags ending id bytes) []
chosen_frames p all zero first later flags ending id bytes f l = chosen_none p all first later flags ending id bytes
chosen_frames p all (suc most) first later flags ending id bytes f l =
    elim (nat_lt 16384 (length bytes)) as (λ b. nat_lt 16384 (length bytes) ≡ b → filter p (frames_of (suc most) first later flags ending id bytes) ≡ cond all (frames_of (suc most) first later flags ending id bytes) []) [
      | true ↦ λ is.
          let e = frames_of-long most first later flags ending id bytes (ltb-true _ _ is) in
          let rest = frames_of most later later 0 ending id (drop 16384 bytes) in
          rw e (chosen_one p all (front_frame first flags id bytes) rest rest (f _ _) (chosen_frames p all most later later 0 ending id (drop 16384 bytes) l l))
      | false ↦ λ is.
          let e = frames_of-short most first later flags ending id bytes (ltb-false _ _ is) in
          rw e (chosen_one p all (last_frame first (flags + ending) id bytes) [] [] (f _ _) (either_way all []))
    ] refl

pub chosen_if : (p : Out → Bool) (all b : Bool) (os : List Out) → filter p os ≡ cond all os [] → filter p (cond b os []) ≡ cond all (cond b os []) []
chosen_if p all true os h = h
chosen_if p all false os h = either_way all []

pub chosen_unless : (p : Out → Bool) (all : Bool) (o : Option ConnFault) (os : List Out) → filter p os ≡ cond all os [] → filter p (outs_unless o os) ≡ cond all (outs_unless o os) []
chosen_unless p all None os h = h
chosen_unless p all (Some e) os h = either_way all []
