-- Bytes that are fed in pieces are fed as one.
use Rattle.std.proofs.Common.{◌≡◌, ℕ, ◌-◌, ◌≤◌, List, [], ◌∷◌, ◌++◌, length, refl, sym, ap, ◌∙◌, inl, inr, Option, None, Some, Result, Ok, Err, arith, append_assoc}
use Rattle.rx_h2frame.specs.declared.frame.FrameFault.{FrameFault}
use Rattle.rx_h2frame.specs.declared.frame.FrameFault.TheVariants.{BadPadding}
use Rattle.rx_h2frame.specs.Frame.{Seen, Complete, Lacks, next}
use Rattle.rx_h2frame.specs.Write.{Out}
use Rattle.rx_h2frame.proofs.NextLemmas.{next_refused, next_lacks}
use Rattle.rx_h2conn.specs.declared.fault.ConnFault.{ConnFault}
use Rattle.rx_h2conn.specs.Session.{Reading}
use Rattle.rx_h2conn.specs.Streams.{failed}
use Rattle.rx_h2conn.specs.Steps.{code_of, judged, settled, more, unless_failed, byte, fed}
use Rattle.rx_h2conn.specs.Sound.{IsSound}
use Rattle.rx_h2conn.specs.Emitted.{judged_outs, settled_outs, outs_unless, byte_outs, fed_outs}
use Rattle.rx_h2conn.proofs.SoundLemmas.{sound_failed, sound_took}
use Rattle.rx_h2conn.proofs.TookLemmas.{Adds, adds_none, adds_both, adds_took, quiet_failed}

pub fed_append : (r : Reading) (a b : List ℕ) → fed r (a ++ b) ≡ fed (fed r a) b
fed_append r [] b = refl
fed_append r (x ∷ a) b = fed_append (byte r x) a b

pub byte_failed : (r : Reading) (e : ConnFault) (b : ℕ) → r.state.fault ≡ Some e → byte r b ≡ r
unfolding byte
byte_failed r e b h = rw h refl

pub fed_failed : (r : Reading) (e : ConnFault) (p : List ℕ) → r.state.fault ≡ Some e → fed r p ≡ r
fed_failed r e [] h = refl
fed_failed r e (x ∷ p) h = rw (byte_failed r e x h) (fed_failed r e p h)

pub byte_ready : (r : Reading) (b : ℕ) → r.state.fault ≡ None → byte r b ≡ settled (more r (b ∷ []))
unfolding byte
byte_ready r b h = rw h refl

pub settled_lacks : (r : Reading) (n : ℕ) → next 16384 r.rest ≡ Ok (Lacks n) → settled r ≡ r
unfolding settled
settled_lacks r n h = rw h refl

pub settled_refused : (r : Reading) (e : FrameFault) → next 16384 r.rest ≡ Err e → settled r ≡ record { state = failed r.state (code_of e); rest = [] }
unfolding settled
settled_refused r e h = rw h refl

-- As many bytes as are lacking, or fewer, are judged when they are there.
pub fed_front : (r : Reading) (n : ℕ) (b : ℕ) (p : List ℕ) → r.state.fault ≡ None → next 16384 r.rest ≡ Ok (Lacks n) → length (b ∷ p) ≤ n → fed r (b ∷ p) ≡ settled (more r (b ∷ p))
fed_front r n b [] none lacks few = byte_ready r b none
fed_front r n b (c ∷ p) none lacks few =
    elim (next_lacks 16384 r.rest (b ∷ []) n lacks (omega (arith, few))) [
      | inl goes ↦
          let step : byte r b ≡ more r (b ∷ []) = byte_ready r b none ∙ settled_lacks (more r (b ∷ [])) (n - 1) goes in
          let later : fed (more r (b ∷ [])) (c ∷ p) ≡ settled (more (more r (b ∷ [])) (c ∷ p)) =
          fed_front (more r (b ∷ [])) (n - 1) c p none goes (omega (arith, few)) in
          let same : more (more r (b ∷ [])) (c ∷ p) ≡ more r (b ∷ c ∷ p) = ap (λ (x : List ℕ). record r { rest = x }) (append_assoc r.rest (b ∷ []) (c ∷ p)) in
          ap (λ (x : Reading). fed x (c ∷ p)) step ∙ (later ∙ ap settled same)
      | inr bad ↦
          let step : byte r b ≡ record { state = failed r.state (code_of BadPadding); rest = [] } = byte_ready r b none ∙ settled_refused (more r (b ∷ [])) BadPadding bad in
          let whole : next 16384 (r.rest ++ (b ∷ c ∷ p)) ≡ Err BadPadding =
          rw append_assoc at (next_refused 16384 (r.rest ++ b ∷ []) (c ∷ p) BadPadding bad) in
          ap (λ (x : Reading). fed x (c ∷ p)) step
          ∙ (fed_failed (record { state = failed r.state (code_of BadPadding); rest = [] }) _ (c ∷ p) refl
          ∙ sym (settled_refused (more r (b ∷ c ∷ p)) BadPadding whole))
    ]

-- the windows stay sound over any bytes
pub sound_judged : (r : Reading) (x : Result Seen FrameFault) → IsSound r.state → IsSound (judged r x).state
sound_judged r (Err e) h = sound_failed _ r.state (code_of e) h
sound_judged r (Ok (Lacks n)) h = h
sound_judged r (Ok (Complete f)) h = sound_took r.state f h

pub sound_settled : (r : Reading) → IsSound r.state → IsSound (settled r).state
unfolding settled
sound_settled r h = sound_judged r (next 16384 r.rest) h

pub sound_unless : (o : Option ConnFault) (r n : Reading) → IsSound r.state → IsSound n.state → IsSound (unless_failed o r n).state
sound_unless None r n p q = q
sound_unless (Some e) r n p q = p

pub sound_byte : (r : Reading) (b : ℕ) → IsSound r.state → IsSound (byte r b).state
unfolding byte
sound_byte r b h = sound_unless r.state.fault r (settled (more r (b ∷ []))) h (sound_settled (more r (b ∷ [])) h)

pub sound_fed : (r : Reading) (p : List ℕ) → IsSound r.state → IsSound (fed r p).state
sound_fed r [] h = h
sound_fed r (b ∷ p) h = sound_fed (byte r b) p (sound_byte r b h)

-- what bytes add to the output
pub adds_judged : (r : Reading) (x : Result Seen FrameFault) → r.state.fault ≡ None → Adds r.state (judged r x).state (judged_outs r x)
adds_judged r (Err e) none = quiet_failed r.state (code_of e)
adds_judged r (Ok (Lacks n)) none = adds_none r.state r.state refl refl
adds_judged r (Ok (Complete f)) none = adds_took r.state f none

pub adds_settled : (r : Reading) → r.state.fault ≡ None → Adds r.state (settled r).state (settled_outs r)
unfolding settled settled_outs
adds_settled r none = adds_judged r (next 16384 r.rest) none

pub adds_unless : (o : Option ConnFault) (r n : Reading) (os : List Out) → (o ≡ None → Adds r.state n.state os) → Adds r.state (unless_failed o r n).state (outs_unless o os)
adds_unless None r n os h = h refl
adds_unless (Some e) r n os h = adds_none r.state r.state refl refl

pub adds_byte : (r : Reading) (b : ℕ) → Adds r.state (byte r b).state (byte_outs r b)
unfolding byte byte_outs
adds_byte r b = adds_unless r.state.fault r (settled (more r (b ∷ []))) (settled_outs (more r (b ∷ []))) (λ none. adds_settled (more r (b ∷ [])) none)

pub adds_fed : (r : Reading) (p : List ℕ) → Adds r.state (fed r p).state (fed_outs r p)
adds_fed r [] = adds_none r.state r.state refl refl
adds_fed r (b ∷ p) = adds_both r.state (byte r b).state (fed (byte r b) p).state (byte_outs r b) (fed_outs (byte r b) p) (adds_byte r b) (adds_fed (byte r b) p)
